-- Several views over one list of codes. Each has a cache of its own over blocks of its own.
--     Views and blocks are numbered from 0. What a view says of a block that is not its own counts for nothing.
use Rattle.std.specs.Prelude.{ℕ, ◌≡◌, ◌==◌, ℤ, pos, ◌+ℤ◌, Bool, true, false, List, [], ◌∷◌, slice_index_or, slice_set, Option, Some, None, ⊤}
use Rattle.std.specs.List.{AllByRecursion}
use Rattle.std.specs.Int.{Width}
use Rattle.zf_spec.specs.Numbers.{wrap}
use Rattle.zf_base.specs.Formats.{Format, with_at}
use Rattle.zf_cached.specs.State.{Counts, State}
use Rattle.zf_cached.specs.Touch.{touch, touch_for_writing, with_values}
use Rattle.zf_cached.specs.Changes.{flush, discard}
use Rattle.zf_cached.specs.Acts.{Act}

-- the block b with the value at its place p changed, by one touch for writing
abbrev pub changed : {Code : Type 0} → Format Code → State Code → ℕ → ℕ → (ℤ → ℤ) → State Code
changed format s b p change =
    let t = touch_for_writing format s b in
    with_values t b (slice_set (t.values b) p (change (slice_index_or (t.values b) p (pos 0))))

-- what an act makes of a state
unfoldable pub acted : {Code : Type 0} → Width → Format Code → State Code → Act → State Code
acted w format s (Act.get b p) = touch format s b
acted w format s (Act.set b p v) = changed format s b p (λ old. v)
acted w format s (Act.add b p v) = changed format s b p (λ old. wrap w (old +ℤ v))
acted w format s Act.flush = flush format s
acted w format s Act.discard = discard format s

-- what it answers, where s is the state afterwards
unfoldable pub answered : {Code : Type 0} → State Code → Act → Option ℤ
answered s (Act.get b p) = Some (slice_index_or (s.values b) p (pos 0))
answered s _ = None

-- ---- several views

-- a view: a cached array without the codes
pub record View : Type 0 where
  pub lines : ℕ
  pub held : ℕ → Option ℕ
  pub dirty : ℕ → Bool
  pub values : ℕ → List ℤ
  pub counts : Counts

-- the views by their numbers, and the one list of codes
pub record Views (Code : Type 0) : Type 0 where
  pub view : ℕ → View
  pub codes : ℕ → Code

-- one view's act
pub record Step : Type 0 where
  pub view : ℕ
  pub act : Act

abbrev pub with_codes : {Code : Type 0} → View → (ℕ → Code) → State Code
with_codes v codes = record {
  lines = v.lines;
  held = v.held;
  dirty = v.dirty;
  values = v.values;
  codes =
      codes;
  counts = v.counts;
}

abbrev pub without_codes : {Code : Type 0} → State Code → View
without_codes s = record {
  lines = s.lines;
  held = s.held;
  dirty = s.dirty;
  values = s.values;
  counts =
      s.counts;
}

-- the state of view i, over the codes as they are
abbrev pub state_of_view : {Code : Type 0} → Views Code → ℕ → State Code
state_of_view s i = with_codes (s.view i) s.codes

module _ {Code : Type 0} (w : Width) (format : Format Code) where
  -- a step: the act on that view alone
  unfoldable pub stepped : Views Code → Step → Views Code
  stepped s step =
      let t = acted w format (state_of_view s step.view) step.act in
      record { view = with_at s.view step.view (without_codes t); codes = t.codes }

  -- steps, one after the other
  unfoldable pub ran : Views Code → List Step → Views Code
  ran s [] = s
  ran s (step ∷ steps) = ran (stepped s step) steps

  -- what view i answers in these steps
  unfoldable pub answers : ℕ → Views Code → List Step → List (Option ℤ)
  answers i s [] = []
  answers i s (step ∷ steps) =
      let t = stepped s step in
      let rest = answers i t steps in
      elim (step.view == i) [ true ↦ answered (state_of_view t i) step.act ∷ rest | false ↦ rest ]

-- the steps of view i and no others
unfoldable pub steps_of : ℕ → List Step → List Step
steps_of i [] = []
steps_of i (step ∷ steps) = elim (step.view == i) [
  | true ↦ step
      ∷ steps_of i steps
  | false ↦ steps_of i steps
]

-- ---- blocks of one's own: view i owns the blocks b with `owns i b`

-- no two views share a block
abbrev pub NoneShared : (ℕ → ℕ → Type 0) → Type 0
NoneShared owns = (i j b : ℕ) → owns i b → owns j b → i ≡ j

-- no view owns block b
abbrev pub IsUnowned : (ℕ → ℕ → Type 0) → ℕ → Type 0
IsUnowned owns b = (i : ℕ) → owns i b → ⊥

-- an act is on an owned block
abbrev pub IsWithin : (ℕ → Type 0) → Act → Type 0
IsWithin owned (Act.get b p) = owned b
IsWithin owned (Act.set b p v) = owned b
IsWithin owned (Act.add b p v) = owned b
IsWithin owned Act.flush = ⊤
IsWithin owned Act.discard = ⊤

-- each step is on a block of its view
abbrev pub AreWithin : (ℕ → ℕ → Type 0) → List Step → Type 0
AreWithin owns steps = AllByRecursion (λ (s : Step). IsWithin (owns s.view) s.act) steps

-- what is in the lines, or dirty, is owned
pub record HasOwn (owned : ℕ → Type 0) {Code : Type 0} (s : State Code) : Type 0 where
  pub held : (l b : ℕ) → s.held l ≡ Some b → owned b
  pub dirty : (b : ℕ) → s.dirty b ≡ true → owned b

-- the same lines, dirty blocks and counts, and the same values and codes of the owned blocks
pub record AreAlike (owned : ℕ → Type 0) {Code : Type 0} (s t : State Code) : Type 0 where
  pub lines : s.lines ≡ t.lines
  pub held : s.held ≡ t.held
  pub dirty : s.dirty ≡ t.dirty
  pub counts : s.counts ≡ t.counts
  pub values : (b : ℕ) → owned b → s.values b ≡ t.values b
  pub codes : (b : ℕ) → owned b → s.codes b ≡ t.codes b
