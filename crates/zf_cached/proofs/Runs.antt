-- Runs of scripts: what each line keeps, and lines one after the other.
use Rattle.std.proofs.Common.{◌≡◌, refl, ap, ℕ, suc, ◌+◌, Bool, true, false, ◌&&◌, eqb, List, [], ◌∷◌, ◌++◌, length, Option, Some, None, append_assoc, arith}
use Rattle.std.{specs.List.{list_any}, specs.Option.{option_to_list}, specs.Int.{Width}}
use Rattle.zf_spec.specs.Grid.{IsShape}
use Rattle.zf_cached.{specs.State.{State}, specs.Arrays.{array_format}, specs.Commands.{Command}}
use Rattle.zf_cached.{specs.Replies.{Refusal, Reply}, specs.Grammar.{read_line}, proofs.Arrays.{meant-zeros}}
use Rattle.zf_cached.specs.Steps.{Setting, Session, joined, format_of, refuses_split, tests, first_refusal, refusal, step}
use Rattle.zf_cached.specs.Consistency.{every, IsConsistent, IsCached, IsEmpty, IsSound}
use Rattle.zf_cached.specs.Runs.{lines_of, read_step, line_step, run_lines, run_script, ended, run, array_setting}
use Rattle.zf_cached.{proofs.Placed.{flush-consistent, flush-empty}, proofs.Windows.{LiesIn-whole}}
use Rattle.zf_cached.{proofs.ReadLines.{read_line-Some}, proofs.Sessions.{step_by, step-sound, joined-sound}}
use Rattle.zf_cached.specs.Placing.{Line, IsPlacing, direct}

-- lines, and then more lines
pub run_lines-append : {Code : Type 0} (setting : Setting Code) (starved : List ℕ) (k : ℕ) (lines more : List (List ℕ)) (s : Session Code)
    → run_lines setting starved k (lines ++ more) s ≡ ((run_lines setting starved (k + length lines) more (run_lines setting starved k lines s).0).0, (run_lines setting starved k lines s).1 ++ (run_lines setting starved (k + length lines) more (run_lines setting starved k lines s).0).1)
unfolding run_lines
run_lines-append setting starved k [] more s = let e : k ≡ k + 0 = omega arith in ap (λ n. run_lines setting starved n more s) e
run_lines-append {Code} setting starved k (line ∷ lines) more s =
    let one = line_step setting s line (list_any (λ n. eqb n k) starved) in
    let e : suc k + length lines ≡ k + suc (length lines) = omega arith in
    let first = run_lines setting starved (suc k) lines one.0 in
    let o = option_to_list one.1 in
    cc (run_lines-append setting starved (suc k) lines more one.0, append_assoc o first.1 (run_lines setting starved (suc k + length lines) more first.0).1)

pub step-refused : {Code : Type 0} (setting : Setting Code) (s : Session Code) (c : Command) (starving : Bool) (why : Refusal) → refusal setting s c starving ≡ Some why → step setting s c starving ≡ (s, Some (Reply.refused why))
step-refused setting s c starving why e = step_by setting s c starving (λ r. r ≡ (s, Some (Reply.refused why))) (λ y is. let same : y ≡ why = cc in ap (λ x. (s, Some (Reply.refused x))) same) (λ none. absurd (cc))

refusal_memory : (p a b v t m : Bool) → first_refusal p a b v (t && m) ≡ Some Refusal.memory → (t ≡ true) × (m ≡ true) × (first_refusal p a b v (t && false) ≡ None)
refusal_memory false false false false true true e = (refl, refl, refl)
refusal_memory p a b v t m e = absurd (cc)

pub refusal-memory : {Code : Type 0} (setting : Setting Code) (s : Session Code) (c : Command) (starving : Bool) → refusal setting s c starving ≡ Some Refusal.memory → ((tests setting s c).memory ≡ true) × (starving ≡ true) × (refusal setting s c false ≡ None)
unfolding refusal
refusal-memory setting s c starving e = refusal_memory (refuses_split s c) (tests setting s c).size (tests setting s c).range (tests setting s c).value (tests setting s c).memory starving e

refusal_word : (p a b v m : Bool) → first_refusal p a b v m ≡ Some Refusal.word → ⊥
refusal_word false false false false true e = cc
refusal_word p a b v m e = cc

pub refusal-word : {Code : Type 0} (setting : Setting Code) (s : Session Code) (c : Command) (starving : Bool) → refusal setting s c starving ≡ Some Refusal.word → ⊥
unfolding refusal
refusal-word setting s c starving e = refusal_word (refuses_split s c) (tests setting s c).size (tests setting s c).range (tests setting s c).value ((tests setting s c).memory && starving) e

pub array_setting-cached : (w : Width) (budget : ℕ) → IsCached direct (array_setting w budget)
unfolding array_setting
array_setting-cached w budget = record { touches = refl; zero = meant-zeros w budget }

-- what holds before a line, and after each command that may be read off it, holds after the line
pub line_step_by : {Code : Type 0} (setting : Setting Code) (s : Session Code) (line : List ℕ) (starving : Bool) (P : Session Code → Type 0) → P s
    → ((c : Command) → read_line (length s.shape) line ≡ Some c → setting.allows c ≡ true → P (step setting s c starving).0) → P (line_step setting s line starving).0
unfolding line_step read_step
line_step_by setting s [] starving P before after = before
line_step_by {Code} setting s (b ∷ bs) starving P before after = by (read_line (length s.shape) (b ∷ bs)) refl
  where
    by : (o : Option Command) → read_line (length s.shape) (b ∷ bs) ≡ o → P (read_step setting s o starving).0
    by None e = before
    by (Some c) e = allowed (setting.allows c) refl
      where
        allowed : (t : Bool) → setting.allows c ≡ t → P (elim t as (λ x. Session Code × Option Reply) [ true ↦ step setting s c starving | false ↦ (s, Some (Reply.refused Refusal.word)) ]).0
        allowed true may = after c e may
        allowed false may = before

module _ (at : Line) (may_hold : ℕ → ℕ → ℕ → Type 0) (placing : IsPlacing at may_hold) where
  -- ---- lines

  pub line_step-sound : {Code : Type 0} (setting : Setting Code) (s : Session Code) (line : List ℕ) (starving : Bool) → IsCached at setting → IsSound at setting s → IsSound at setting (line_step setting s line starving).0
  line_step-sound setting s line starving cached h = line_step_by setting s line starving (IsSound at setting) h
      (λ c read may. step-sound at may_hold placing setting s c starving (read_line-Some (length s.shape) line c read).0 cached h)

  pub run_lines-sound : {Code : Type 0} (setting : Setting Code) (starved : List ℕ) (k : ℕ) (lines : List (List ℕ)) (s : Session Code) → IsCached at setting → IsSound at setting s → IsSound at setting (run_lines setting starved k lines s).0
  unfolding run_lines
  run_lines-sound setting starved k [] s cached h = h
  run_lines-sound setting starved k (line ∷ lines) s cached h =
      run_lines-sound setting starved (suc k) lines _ cached (line_step-sound setting s line (list_any (λ n. eqb n k) starved) cached h)

  -- ---- runs

  pub run_script-sound : {Code : Type 0} (setting : Setting Code) (starved shape : List ℕ) (s : State Code) (script : List ℕ) → IsCached at setting → IsShape shape → IsConsistent at every (array_format setting.coding shape) s → IsSound at setting (run_script setting starved shape s script).0
  unfolding run_script
  run_script-sound setting starved shape s script cached is h =
      run_lines-sound setting starved 0 (lines_of script) _ cached (record { shape = is; state = h; window = LiesIn-whole shape is.not_zero; split = λ e. absurd (cc); views = λ i lt. absurd (omega (arith, lt)) })

  pub run-sound : {Code : Type 0} (setting : Setting Code) (starved shape : List ℕ) (s : State Code) (script : List ℕ) → IsCached at setting → IsShape shape → IsConsistent at every (array_format setting.coding shape) s → IsSound at setting (run setting starved shape s script).0
  unfolding run ended joined
  run-sound setting starved shape s script cached is h =
      let t = joined setting (run_script setting starved shape s script).0 in
      let k = joined-sound at may_hold placing setting _ (run_script-sound setting starved shape s script cached is h) in
      record { shape = k.shape; state = flush-consistent at may_hold placing every (format_of setting t) t.state k.state; window = k.window; split = λ e. absurd (cc); views = λ i lt. absurd (omega (arith, lt)) }

  -- nothing is dirty after a run
  pub run-empty : {Code : Type 0} (setting : Setting Code) (starved shape : List ℕ) (s : State Code) (script : List ℕ) → IsCached at setting → IsShape shape → IsConsistent at every (array_format setting.coding shape) s → IsEmpty (run setting starved shape s script).0.state
  unfolding run ended
  run-empty setting starved shape s script cached is h =
      let t = joined setting (run_script setting starved shape s script).0 in
      flush-empty at may_hold placing every (format_of setting t) t.state (joined-sound at may_hold placing setting _ (run_script-sound setting starved shape s script cached is h)).state
