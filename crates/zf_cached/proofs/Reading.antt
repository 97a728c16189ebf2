-- Lines that only read leave the sizes, the codes and the values as they are, and nothing dirty.
use Rattle.std.proofs.Common.{◌≡◌, refl, sym, subst, ℕ, zero, suc, ℤ, Bool, true, false, eqb, List, [], ◌∷◌, length, Option, Some, None, rules}
use Rattle.std.{specs.List.{list_any}, specs.Int.{Width}}
use Rattle.zf_base.{specs.Formats.{Format}, specs.Places.{block_number}}
use Rattle.zf_spec.specs.Grid.{upto}
use Rattle.zf_cached.{specs.State.{State}, specs.Touch.{write_back_line, hit, miss, touch_at}}
use Rattle.zf_cached.{specs.Changes.{write_back_lines, emptied, flush, relined}, specs.Windows.{mapped}}
use Rattle.zf_cached.{specs.Placing.{Line}, specs.Arrays.{codes_of, saved_file}, specs.Commands.{Command}}
use Rattle.zf_cached.{specs.Grammar.{read_line}, specs.Views.{View}}
use Rattle.zf_cached.specs.Steps.{Setting, Session, format_of, touched, summed, is_split, views_in, flushed_views, joined, done, step}
use Rattle.zf_cached.specs.Runs.{lines_of, only_reads, line_step, run_lines, run_script, ended, run, look, array_setting}
use Rattle.zf_cached.{specs.Consistency.{IsCached}, specs.Unwritten.{IsUnwritten, ReadAlone}}
use Rattle.zf_cached.{proofs.Caching.{true_is_not_false, write_back_line_by}, proofs.Placed.{touch_at_by}}
use Rattle.zf_cached.{proofs.Sessions.{step_by}, proofs.Runs.{array_setting-cached, line_step_by}}

-- ---- states

module _ {Code : Type 0} where
  pub line-unwritten : (format : Format Code) (s : State Code) (l : ℕ) (codes : ℕ → Code) (values : ℕ → List ℤ) → IsUnwritten codes values s → IsUnwritten codes values (write_back_line format s l)
  line-unwritten format s l codes values h =
      write_back_line_by format s l (IsUnwritten codes values) (λ b here dirty. true_is_not_false (s.dirty b) dirty (h.clean b)) (λ b here clean. h) (λ nothing. h)

  touch-unwritten : (line : Line) (format : Format Code) (s : State Code) (b : ℕ) (codes : ℕ → Code) (values : ℕ → List ℤ) → IsUnwritten codes values s → IsUnwritten codes values (touch_at line format s b)
  unfolding hit miss
  touch-unwritten line format s b codes values h = touch_at_by line format s b (IsUnwritten codes values)
      (λ here. record { codes = h.codes; values = h.values; clean = h.clean })
      (λ away. let k = line-unwritten format s _ codes values h in record { codes = k.codes; values = k.values; clean = k.clean })

  lines-unwritten : (format : Format Code) (s : State Code) (n : ℕ) (codes : ℕ → Code) (values : ℕ → List ℤ) → IsUnwritten codes values s → IsUnwritten codes values (write_back_lines format s n)
  unfolding write_back_lines
  lines-unwritten format s zero codes values h = h
  lines-unwritten format s (suc n) codes values h = line-unwritten format (write_back_lines format s n) n codes values (lines-unwritten format s n codes values h)

  flush-unwritten : (format : Format Code) (s : State Code) (codes : ℕ → Code) (values : ℕ → List ℤ) → IsUnwritten codes values s → IsUnwritten codes values (flush format s)
  unfolding flush emptied
  flush-unwritten format s codes values h = let k = lines-unwritten format s s.lines codes values h in record { codes = k.codes; values = k.values; clean = k.clean }

  relined-unwritten : (format : Format Code) (s : State Code) (n : ℕ) (codes : ℕ → Code) (values : ℕ → List ℤ) → IsUnwritten codes values s → IsUnwritten codes values (relined format s n)
  unfolding relined
  relined-unwritten format s n codes values h = let k = flush-unwritten format s codes values h in record { codes = k.codes; values = k.values; clean = k.clean }

-- ---- sessions

module _ (line : Line) {Code : Type 0} (setting : Setting Code) (cached : IsCached line setting) (shape : List ℕ) (codes : ℕ → Code) (values : ℕ → List ℤ) where
  pub record Stays (s : Session Code) : Type 0 where
    pub sizes : s.shape ≡ shape
    pub state : IsUnwritten codes values s.state
    pub alone : is_split s ≡ false

  touched-stays : (s : Session Code) (b : ℕ) → Stays s → Stays (touched setting s b)
  unfolding touched
  touched-stays s b h = record {
    sizes = h.sizes;
    state = subst (λ f. IsUnwritten codes values (f (format_of setting s) s.state b)) (sym cached.touches) (touch-unwritten line (format_of setting s) s.state b codes values h.state);
    alone = h.alone;
  }

  summed-stays : {X : Type 0} (block : X → ℕ) (found : X → List ℤ → ℤ) (xs : List X) (s : Session Code) → Stays s → Stays (summed setting block found xs s).0
  unfolding summed
  summed-stays block found [] s h = h
  summed-stays block found (x ∷ xs) s h = summed-stays block found xs (touched setting s (block x)) (touched-stays s (block x) h)

  done-stays : (s : Session Code) (c : Command) → only_reads c ≡ true → Stays s → Stays (done setting s c).0
  unfolding done
  done-stays s (Command.get ps) reads h = touched-stays s (block_number s.shape ps) h
  done-stays s Command.sum reads h = summed-stays _ _ (upto (format_of setting s).blocks) s h
  done-stays s (Command.view origin size step) reads h = record { sizes = h.sizes; state = h.state; alone = h.alone }
  done-stays s (Command.slice axis at) reads h = record { sizes = h.sizes; state = h.state; alone = h.alone }
  done-stays s (Command.vget ps) reads h = touched-stays s (block_number s.shape (mapped s.window ps)) h
  done-stays s Command.vsum reads h = summed-stays _ _ _ s h
  done-stays s (Command.lines l) reads h = record { sizes = h.sizes; state = relined-unwritten (format_of setting s) s.state _ codes values h.state; alone = h.alone }
  done-stays s Command.stats reads h = h
  done-stays s c reads h = absurd (cc)

  line-stays : (s : Session Code) (l : List ℕ) (starving : Bool) → ((c : Command) → read_line (length shape) l ≡ Some c → setting.allows c ≡ true → only_reads c ≡ true) → Stays s → Stays (line_step setting s l starving).0
  line-stays s l starving reads h = line_step_by setting s l starving Stays h
      (λ c read may. let only = reads c (subst (λ ns. read_line (length ns) l ≡ Some c) h.sizes read) may in
      step_by setting s c starving (λ r. Stays r.0) (λ why refused. h) (λ taken. done-stays s c only h))

  lines-stay : (starved : List ℕ) (k : ℕ) (lines : List (List ℕ)) (s : Session Code) → ReadAlone setting (length shape) lines → Stays s → Stays (run_lines setting starved k lines s).0
  unfolding run_lines
  lines-stay starved k [] s reads h = h
  lines-stay starved k (l ∷ lines) s reads h = lines-stay starved (suc k) lines _ reads.1 (line-stays s l (list_any (λ n. eqb n k) starved) reads.0 h)

  pub script-stays : (starved : List ℕ) (s : State Code) (script : List ℕ) → ReadAlone setting (length shape) (lines_of script) → IsUnwritten codes values s → Stays (run_script setting starved shape s script).0
  unfolding run_script
  script-stays starved s script reads h = lines-stay starved 0 (lines_of script) _ reads (record { sizes = refl; state = h; alone = refl })

  none_there : (o : Option (List View)) → (elim o as (λ x. Bool) [ Some x ↦ true | None ↦ false ]) ≡ false → length (views_in o) ≡ 0
  none_there None e = refl
  none_there (Some views) e = absurd (cc)

  ended-stays : (s : Session Code) → Stays s → Stays (ended setting s)
  unfolding ended joined flushed_views
  ended-stays s h = subst (λ n. Stays (let t = record (flushed_views setting s n) { split = None } in record t { state = flush (format_of setting t) t.state })) (sym (none_there s.split h.alone))
      (record { sizes = h.sizes; state = flush-unwritten (format_of setting s) s.state codes values h.state; alone = refl })

  pub run-stays : (starved : List ℕ) (s : State Code) (script : List ℕ) → ReadAlone setting (length shape) (lines_of script) → IsUnwritten codes values s → Stays (run setting starved shape s script).0
  unfolding run
  run-stays starved s script reads h = ended-stays (run_script setting starved shape s script).0 (script-stays starved s script reads h)

-- where no other command is allowed, all lines do
all_read : {Code : Type 0} (setting : Setting Code) (d : ℕ) → ((c : Command) → setting.allows c ≡ true → only_reads c ≡ true) → (lines : List (List ℕ)) → ReadAlone setting d lines
all_read setting d reads [] = tt
all_read setting d reads (l ∷ lines) = (λ c is may. reads c may, all_read setting d reads lines)

module _ (line : Line) {Code : Type 0} (setting : Setting Code) (starved shape : List ℕ) (s : State Code) (script : List ℕ) (cached : IsCached line setting) (clean : (b : ℕ) → s.dirty b ≡ false) where
  now : IsUnwritten s.codes s.values s
  now = record { codes = refl; values = refl; clean = clean }

  pub run-reads : ReadAlone setting (length shape) (lines_of script) → ((run setting starved shape s script).0.shape ≡ shape) × IsUnwritten s.codes s.values (run setting starved shape s script).0.state
  run-reads reads = let h = run-stays line setting cached shape s.codes s.values starved s script reads now in (h.sizes, h.state)

  pub look-reads : ((c : Command) → setting.allows c ≡ true → only_reads c ≡ true) → ((look setting starved shape s script).0.shape ≡ shape) × IsUnwritten s.codes s.values (look setting starved shape s script).0.state
  unfolding look
  look-reads reads = let h = script-stays line setting cached shape s.codes s.values starved s script (all_read setting (length shape) reads (lines_of script)) now in (h.sizes, h.state)

-- so the file is saved as it was
pub reading-saves : (w : Width) (budget : ℕ) (starved shape : List ℕ) (s : State (List Bool)) (script : List ℕ) → ReadAlone (array_setting w budget) (length shape) (lines_of script) → ((b : ℕ) → s.dirty b ≡ false)
    → saved_file w budget (run (array_setting w budget) starved shape s script).0.shape (run (array_setting w budget) starved shape s script).0.state ≡ saved_file w budget shape s
unfolding saved_file codes_of
reading-saves w budget starved shape s script reads clean = search (rules, run-reads, array_setting-cached)
