-- What a call finds and leaves of an array and a window that a script works on.
use Rattle.std.specs.Prelude.{ℕ, ◌≡◌, List, Option}
use Rattle.zf_base.specs.declared.position.Pos.{Pos}
use Rattle.zf_base.specs.Places.{IsAt}
use Rattle.zf_base.specs.Positions.{IsPosition}
use Rattle.zf_cached.specs.Replies.{Reply}
use Rattle.zf_cached.specs.Commands.{Command}
use Rattle.zf_cached.specs.Steps.{Setting, Session}
use Rattle.zf_commands.specs.declared.subject.Subject.{Ghosts as Subject}
use Rattle.zf_commands.specs.Steps.{HasWindow, Does}

module _ {A : Type 0} (S : Subject A) where
  -- it is sound, and its window lies in its array
  pub record IsReady (a : A) : Type 0 where
    pub sound : S.sound a
    pub window : HasWindow (S.session a)

  -- it is sound, and its array has this position
  pub record HasPosition (p : Pos) (a : A) : Type 0 where
    pub sound : S.sound a
    pub position : IsPosition (S.session a).shape p

  -- it is sound, and this is the place of a position of its array
  pub record HasPlace (b p : ℕ) (a : A) : Type 0 where
    pub sound : S.sound a
    pub position : List ℕ
    pub at : IsAt (S.session a).shape position b p

  -- a call leads from one session to another in this way; all stays sound, and what no line changes is the
  -- same
  pub record Leads (step : Setting S.Code → Session S.Code → Session S.Code → Type 0) (old new : A)
      : Type 0 where
    pub does : step (S.setting (S.kept old)) (S.session old) (S.session new)
    pub sound : S.sound new
    pub kept : S.kept new ≡ S.kept old

  -- a call does what a command asks for, and this is the answer
  abbrev pub Obeys : Command → Option Reply → A → A → Type 0
  Obeys c reply old new = Leads (λ k s t. Does k c s t reply) old new

  -- all is ready for the next line, and what no line changes is the same
  pub record StaysReady (old new : A) : Type 0 where
    pub ready : IsReady new
    pub kept : S.kept new ≡ S.kept old
