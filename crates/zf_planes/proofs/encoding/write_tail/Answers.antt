use Rattle.std.proofs.Common.{rules, ◌≡◌, ℕ, suc, ◌+◌, ◌-◌, ◌*◌, ◌/◌, ◌%◌, ◌^◌, ◌<◌, ◌≤◌, min, Bool, true, false, List, [], ◌∷◌, ◌++◌, length, take, drop, replicate, get_or, refl, sym, ap, ◌∙◌, arith}
use Rattle.std.{specs.Int.{w64, trailing_zeros}, specs.Int.Count.{trailing_of_zero}}
use Rattle.std.proofs.lemmas.List.{length-drop, length-take, drop_all}
use Rattle.zf_spec.{specs.Planes.{tail, has_one, reach}, specs.HeldPlanes.{digits_held}}
use Rattle.zf_spec.proofs.HeldPlanes.{length-digits_held}
use Rattle.zf_bits.{specs.Writer.{Writer, Appends}, proofs.Appending.{Appends-same}}
use Rattle.zf_planes.{specs.Writes.{Remains}, proofs.Digits.{next_one, split_at_next, held_part}}
use Rattle.zf_planes.proofs.Budgets.{Remains-start, Remains-same, Remains-fits, Remains-more, Remains-bit, Remains-end}
use Rattle.zf_planes.proofs.Runs.{tail_none, tail_run_at, tail_some, has_one-drop, has_one-drop_none}
use Rattle.zf_planes.{proofs.Zeros.{run_of_plane}, proofs.encoding.write_tail.Given.{Over}}
use Rattle.zf_planes.proofs.encoding.write_tail.Goals as goal

-- a plane has as many digits as its size
held_long : (g : Over) (plane : g.row.P.Denot) (size : ℕ) → size ≤ 64 * g.P.Plane.word_count → length (digits_held size (g.P.Plane.words plane)) ≡ size
held_long g plane size enough = length-digits_held size (g.P.Plane.words plane) (omega (arith, enough, g.met.P.Plane.long plane))

pub loop-n-init : goal.loop-n-init
loop-n-init g c = record { remains = Remains-start c.args.out.now c.args.left _ c.requires.fits; within = c.requires.in_plane }

-- ---- a group bit

-- there is room for it
room_for_bit : {old now : Writer} {budget left : ℕ} {whole : List Bool} (ds : List Bool) (n : ℕ) → Remains old now budget left whole (tail (drop n ds)) → n < length ds → 0 < left → 0 < now.room
room_for_bit ds n remains below some = omega (arith, remains.fits, tail_some (drop n ds) (omega (arith, length-drop n ds)))

pub write_bit_reserved-requires : goal.write_bit_reserved-requires
write_bit_reserved-requires g c = search (rules, room_for_bit, held_long)

pub write_bit_reserved-requires-else-zeros-lt63 : goal.write_bit_reserved-requires-else-zeros-lt63
write_bit_reserved-requires-else-zeros-lt63 g c = search (rules, room_for_bit, held_long)

-- behind one of zero nothing comes
at_end : {old now new : Writer} {budget left : ℕ} {whole : List Bool} (ds : List Bool) (n : ℕ) → Remains old now budget left whole (tail (drop n ds)) → n < length ds → 0 < left → reach ds ≤ n → Appends now new (false ∷ [])
    → Remains old new budget (left - 1) whole []
at_end ds n remains below some past appends =
    Remains-bit false [] some (Remains-same remains (tail_none (drop n ds) (omega (arith, length-drop n ds)) (has_one-drop_none n ds past))) appends

pub returns-then-n-end : goal.returns-then-n-end
returns-then-n-end g c =
    let ds = digits_held c.args.size (g.P.Plane.words c.args.plane.now) in
    let long = held_long g c.args.plane.now c.args.size c.requires.words in
    let none = at_end ds c.loop-n.n c.loop-n.invariant.remains (omega (arith, long, c.loop-n-test.true)) c.if-left-gt0.true (omega (arith, c.requires.end, c.if-n-end.true)) c.write_bit_reserved.ensures.bits in
    record { bits = Remains-end none (omega arith); left = omega (arith, none.spent) }

-- ---- a group bit of one, and the run behind it

-- the run in one word: j zeros come before the one
record IsRun (ds : List Bool) (n j : ℕ) : Type 0 where
  within : n + j < length ds
  split : drop n ds ≡ replicate j false ++ true ∷ drop (j + 1) (drop n ds)

module _ {old now : Writer} {budget left : ℕ} {whole : List Bool} (size n j : ℕ) (ds : List Bool) (remains : Remains old now budget left whole (tail (drop n ds))) (long : length ds ≡ size) (run : IsRun ds n j) where
  -- what remains begins with both, and the run ends before rank m
  remains_run : (m : ℕ) → m ≡ min (n + j + 1) (size - 1) → Remains old now budget left whole ((true ∷ take (m - n) (drop n ds)) ++ tail (drop (n + j + 1) ds))
  remains_run m e = Remains-same remains (tail_run_at ds n j m (omega (arith, length-drop n ds, run.within)) run.split (omega arith))

  abbrev end : ℕ
  end = min (n + j + 1) (size - 1)

  -- as many bits as both have
  count_is : length (true ∷ take (end - n) (drop n ds)) ≡ min (j + 2) (size - n)
  count_is = omega (arith, length-take (end - n) (drop n ds), length-drop n ds, run.within)

  group_fits : min left (min (j + 2) (size - n)) ≤ now.room
  group_fits = omega (arith, Remains-fits (true ∷ take (end - n) (drop n ds)) (tail (drop (n + j + 1) ds)) (remains_run end refl), count_is)

  group_written : {new : Writer} → Appends now new (take left (take (min (j + 2) (size - n)) (true ∷ (replicate j false ++ true ∷ []))))
      → Remains old new budget (left - min (j + 2) (size - n)) whole (tail (drop (n + j + 1) ds))
  group_written {new} appends =
      let bits : min (j + 2) (size - n) ≡ suc (end - n) = omega (arith, run.within) in
      let same = run_of_plane (drop n ds) (drop (j + 1) (drop n ds)) j (end - n) run.split (omega arith) in
      let written = Appends-same appends (ap (take left) (ap (λ k. take k (true ∷ (replicate j false ++ true ∷ []))) bits ∙ sym same)) in
      rw (← count_is) (Remains-more (true ∷ take (end - n) (drop n ds)) (tail (drop (n + j + 1) ds)) (remains_run end refl) written)

  -- behind the group bit comes the run
  after_bit : {new : Writer} (m : ℕ) → m ≡ min (n + j + 1) (size - 1) → 0 < left → Appends now new (true ∷ []) → Remains old new budget (left - 1) whole (take (m - n) (drop n ds) ++ tail (drop (n + j + 1) ds))
  after_bit m e some appends = Remains-bit true _ some (remains_run m e) appends

run_in_word : (size n w : ℕ) (ws : List ℕ) → w ≡ get_or ws (n / 64) 0 → size ≤ 64 * length ws → w < 2 ^ 64 → has_one (drop n (digits_held size ws)) ≡ true
    → trailing_zeros w64 (w / 2 ^ (n % 64)) < 63 → IsRun (digits_held size ws) n (trailing_zeros w64 (w / 2 ^ (n % 64)))
run_in_word size n w ws is enough fits one few =
    let z = trailing_zeros w64 (w / 2 ^ (n % 64)) in
    let next = next_one size n n w ws is enough fits one (λ j from below. absurd (omega arith)) (some (w / 2 ^ (n % 64)) few) in
    record { within = next.within; split = split_at_next (digits_held size ws) n z (n + z) refl next }
  where
    some : (v : ℕ) → trailing_zeros w64 v < 63 → 0 < v
    some v few = grind (arith, trailing_of_zero 64)

run_here : (g : Over) (c : goal.After-write_group-arg-1 g) → IsRun (digits_held c.args.size (g.P.Plane.words c.args.plane.now)) c.loop-n.n (trailing_zeros w64 (c.word.result / 2 ^ (c.loop-n.n % 64)))
run_here g c =
    let ws = g.P.Plane.words c.args.plane.now in
    let one = has_one-drop c.loop-n.n (digits_held c.args.size ws) (omega (arith, c.requires.end, c.if-n-end.false)) in
    run_in_word c.args.size c.loop-n.n c.word.result ws c.word.ensures (omega (arith, c.requires.words, g.met.P.Plane.long c.args.plane.now)) (omega (arith, c.word.type_inv)) one c.if-zeros-lt63.true

-- ---- the run is written at once

pub write_group-left-requires-clause-fits : goal.write_group-left-requires-clause-fits
write_group-left-requires-clause-fits g c = search (rules, group_fits, held_long, run_here)

pub loop-n-preserved-then-zeros-lt63 : goal.loop-n-preserved-then-zeros-lt63
loop-n-preserved-then-zeros-lt63 g c =
    let n = c.loop-n.n in
    let ws = g.P.Plane.words c.args.plane.now in
    let ds = digits_held c.args.size ws in
    let long = held_long g c.args.plane.now c.args.size c.requires.words in
    let z = trailing_zeros w64 (c.word.result / 2 ^ (n % 64)) in
    let one = has_one-drop n ds (omega (arith, c.requires.end, c.if-n-end.false)) in
    let run = run_in_word c.args.size n c.word.result ws c.word.ensures (omega (arith, c.requires.words, g.met.P.Plane.long c.args.plane.now)) (omega (arith, c.word.type_inv)) one c.if-zeros-lt63.true in
    let written = group_written c.args.size n z ds c.loop-n.invariant.remains long run c.write_group-left.ensures.bits in
    search rules

-- ---- the run is written by parts

pub zeros_from-requires-clause-one : goal.zeros_from-requires-clause-one
zeros_from-requires-clause-one g c =
    has_one-drop c.loop-n.n (digits_held c.args.size (g.P.Plane.words c.args.plane.now)) (omega (arith, c.requires.end, c.if-n-end.false))

pub write_digits-left-requires-clause-fits : goal.write_digits-left-requires-clause-fits
write_digits-left-requires-clause-fits g c =
    let n = c.loop-n.n in
    let ds = digits_held c.args.size (g.P.Plane.words c.args.plane.now) in
    let all = held_long g c.args.plane.now c.args.size c.requires.words in
    let m = c.min.result in
    let run : IsRun ds n c.zeros_from.result = record { within = omega (arith, all, c.zeros_from.ensures.bound); split = c.zeros_from.ensures.split } in
    let next = after_bit c.args.size n c.zeros_from.result ds c.loop-n.invariant.remains all run m c.min.ensures c.if-left-gt0.true c.write_bit_reserved-else-zeros-lt63.ensures.bits in
    let count : length (take (m - n) (drop n ds)) ≡ m - n = omega (arith, all, length-take (m - n) (drop n ds), length-drop n ds, c.min.ensures) in
    rw count at (Remains-fits (take (m - n) (drop n ds)) (tail (drop (n + c.zeros_from.result + 1) ds)) next)

pub loop-n-preserved : goal.loop-n-preserved
loop-n-preserved g c =
    let n = c.loop-n.n in
    let ws = g.P.Plane.words c.args.plane.now in
    let ds = digits_held c.args.size ws in
    let all = held_long g c.args.plane.now c.args.size c.requires.words in
    let j = c.zeros_from.result in
    let m = c.min.result in
    let run : IsRun ds n j = record { within = omega (arith, all, c.zeros_from.ensures.bound); split = c.zeros_from.ensures.split } in
    let next = after_bit c.args.size n j ds c.loop-n.invariant.remains all run m c.min.ensures c.if-left-gt0.true c.write_bit_reserved-else-zeros-lt63.ensures.bits in
    let part = Appends-same c.write_digits-left.ensures.bits (ap (take (c.loop-n.left - 1)) (held_part c.args.size n m ws (omega (arith, c.min.ensures, c.loop-n-test.true)) (omega (arith, c.min.ensures)))) in
    let written = Remains-more (take (m - n) (drop n ds)) (tail (drop (n + j + 1) ds)) next part in
    let count : length (take (m - n) (drop n ds)) ≡ m - n = omega (arith, all, length-take (m - n) (drop n ds), length-drop n ds, c.min.ensures) in
    search rules

-- ---- no bit or no rank is left

pub returns-else-left-gt0 : goal.returns-else-left-gt0
returns-else-left-gt0 g c = record { bits = Remains-end c.loop-n.invariant.remains (omega (arith, c.if-left-gt0.false)); left = omega (arith, c.if-left-gt0.false, c.loop-n.invariant.remains.spent) }

-- behind the last rank nothing comes
none_left : (g : Over) (c : goal.After-loop-n g) → tail (drop c.loop-n.n (digits_held c.args.size (g.P.Plane.words c.args.plane.now))) ≡ []
none_left g c =
    ap tail (drop_all c.loop-n.n (digits_held c.args.size (g.P.Plane.words c.args.plane.now)) (omega (arith, held_long g c.args.plane.now c.args.size c.requires.words, c.loop-n-test.false)))

pub returns-after-loop-n : goal.returns-after-loop-n
returns-after-loop-n g c =
    let none = ap length (none_left g c) in search (rules, Remains-end)
