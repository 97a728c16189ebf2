-- What the lines of a script answer, line by line, and which of them are on which view.
use Rattle.std.specs.Prelude.{ℕ, suc, ◌==◌, Bool, true, false, not, ◌&&◌, List, [], ◌∷◌, map, filter, Option}
use Rattle.std.specs.Prelude.{Some, None, is_some}
use Rattle.std.specs.List.{list_any}
use Rattle.zf_cached.specs.State.{is_block}
use Rattle.zf_cached.specs.Commands.{Command}
use Rattle.zf_cached.specs.Replies.{Reply}
use Rattle.zf_cached.specs.Grammar.{read_line}
use Rattle.zf_cached.specs.Steps.{Setting, Session}
use Rattle.zf_cached.specs.Runs.{line_step}

-- a line and its reply, if any
abbrev pub Answered : Type 0
Answered = List ℕ × Option Reply

-- each line with what it answers, where they run one after the other. The first is number k of the script;
-- the lines with these numbers are out of memory
unfoldable pub answered_lines : {Code : Type 0} → Setting Code → List ℕ → ℕ → List (List ℕ) → Session Code
    → List Answered
answered_lines setting starved k [] s = []
answered_lines setting starved k (line ∷ lines) s =
    let one = line_step setting s line (list_any (λ n. n == k) starved) in
    (line, one.1) ∷ answered_lines setting starved (suc k) lines one.0

-- the view that a command is on, if it is on one
abbrev pub view_named : Command → Option ℕ
view_named (Command.pget i ps) = Some i
view_named (Command.pset i ps v) = Some i
view_named (Command.padd i ps v) = Some i
view_named (Command.pflush i) = Some i
view_named (Command.pdiscard i) = Some i
view_named (Command.pstats i) = Some i
view_named _ = None

abbrev pub named : Option Command → Option ℕ
named None = None
named (Some c) = view_named c

-- a line without a refusal is accepted
abbrev pub is_accepted : Option Reply → Bool
is_accepted None = true
is_accepted (Some (Reply.refused why)) = false
is_accepted (Some reply) = true

-- in d dimensions, the line is on view i, or on another view, and it is accepted
abbrev pub is_on : ℕ → ℕ → Answered → Bool
is_on d i x = is_accepted x.1 && is_block (named (read_line d x.0)) i

abbrev pub is_elsewhere : ℕ → ℕ → Answered → Bool
is_elsewhere d i x = is_accepted x.1 &&
    (is_some (named (read_line d x.0)) && not (is_block (named (read_line d x.0)) i))

-- the lines that are left where the accepted ones on other views are taken out
abbrev pub without_others : ℕ → ℕ → List Answered → List (List ℕ)
without_others d i xs = map (λ (x : Answered). x.0) (filter (λ (x : Answered). not (is_elsewhere d i x)) xs)
