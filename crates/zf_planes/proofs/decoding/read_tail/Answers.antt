use Rattle.std.proofs.Common.{rules, ◌≡◌, ℕ, ◌+◌, ◌-◌, ◌*◌, ◌%◌, ◌<◌, ◌≤◌, ◌⊎◌, max, Bool, true, false, List, [], ◌∷◌, ◌++◌, length, replicate, refl, eqb, sym, ap, ◌∙◌, arith, append_assoc}
use Rattle.std.proofs.lemmas.List.{nil_from_length}
use Rattle.zf_spec.{specs.Planes.{reach}, specs.HeldPlanes.{digits_held, IsClearFrom}}
use Rattle.zf_spec.{proofs.HeldPlanes.{length-digits_held}}
use Rattle.zf_bits.specs.Reader.{Reader, rest}
use Rattle.zf_planes.specs.Decoding.{IsWindow, Takes, ReadsTail, tail_ahead, tail_bits}
use Rattle.zf_planes.proofs.Passing.{Passes-part, Passes-end, Passes-lacks, if_none}
use Rattle.zf_planes.{proofs.Peeking.{first_bit}, proofs.Steps.{tail_over, tail_end, tail_short}}
use Rattle.zf_planes.proofs.Placing.{clear_later, held_behind, one_placed, reach_behind, reach_one}
use Rattle.zf_planes.proofs.decoding.read_tail.Goals.{then-loop-n-test+else-cursor-gt0, else-loop-n-test}
use Rattle.zf_planes.proofs.decoding.read_tail.Goals as goal

-- ---- the bits end

pub returns-then-not-sees-clause-short : goal.returns-then-not-sees-clause-short
returns-then-not-sees-clause-short g c =
    let s = rest c.loop-n.cursor.reader in
    let none = c.sees.ensures.short c.if-not-sees.true (omega (arith, c.if-cursor-gt0.true)) (omega arith) in
    let needed = tail_short c.loop-n.cursor.left (c.args.size - c.loop-n.n) s c.if-cursor-gt0.true (omega (arith, c.loop-n-test.true)) (nil_from_length s (omega (arith, none))) in
    Passes-lacks c.loop-n.invariant.passes (record { few = none; all = ap (λ r. r.all) c.sees.ensures.reader }) needed

pub returns-in_err-n-clause-short : goal.returns-in_err-n-clause-short
returns-in_err-n-clause-short g c =
    let lacks = rw (c.sees.ensures.left, c.sees.ensures.reader) at c.in_err-n.ensures.short in
    if_none _ (Passes-lacks c.loop-n.invariant.passes lacks (omega arith))

-- ---- a run

pub loop-n-preserved : goal.loop-n-preserved
loop-n-preserved g c =
    let n = c.loop-n.n in
    let z = c.in_ok-n.field-0 in
    let before = c.loop-n.invariant in
    let ok = rw (c.sees.ensures.left, c.sees.ensures.reader) at c.in_ok-n.ensures.read in
    let left' = c.read_group.new.cursor.left in
    let old = g.P.Plane.words c.loop-n.plane in
    let new = g.P.Plane.words c.set_one.new.plane in
    let s' = rest c.read_group.new.cursor.reader in
    let m = c.args.size - n in
    let enough : n + z < 64 * length old = omega (arith, ok.within, before.within, c.requires.words, g.met.P.Plane.long c.loop-n.plane) in
    let placed = one_placed old new n z enough before.clear c.set_one.ensures in
    let long = length-digits_held n old (omega arith) in
    let fewer : m - z - 1 ≡ c.args.size - (n + z + 1) = omega arith in
    let bits' = rw fewer at ok.bits in
    let reached = ap reach placed.0 ∙ reach_one (digits_held n old) z in
    record {
      passes = Passes-part (tail_bits left' (c.args.size - (n + z + 1)) s') before.passes bits' ok.taken;
      digits =
          cc (
            before.digits,
            regroup (digits_held n old) (replicate z false) (tail_ahead left' (c.args.size - (n + z + 1)) s'),
            placed.0,
          );
      clear = placed.1;
      within = omega (arith, ok.within, before.within);
      above = omega (arith, before.above, reached, long);
    }
  where
    regroup : (xs ys zs : List Bool) → xs ++ (ys ++ true ∷ zs) ≡ (xs ++ (ys ++ true ∷ [])) ++ zs
    regroup xs ys zs = ap (λ (bs : List Bool). xs ++ bs) (sym (append_assoc ys (true ∷ []) zs)) ∙ sym (append_assoc xs (ys ++ true ∷ []) zs)

-- ---- the digits behind rank n are zero

finished : {old now : Reader} {left after : ℕ} (size n from : ℕ) (prefix ws : List ℕ) (more : List Bool) → n ≤ size → size ≤ 64 * length ws → IsClearFrom n ws → n ≡ max from (reach (digits_held n ws))
    → digits_held from prefix ++ tail_ahead left (size - from) (rest old) ≡ digits_held n ws ++ more → more ≡ replicate (size - n) false → Takes old now left after (tail_bits left (size - from) (rest old))
    → ReadsTail size from old now left after prefix ws n
finished size n from prefix ws more within enough clear above is zeros taken = search (rules, held_behind, reach_behind, clear_later)

-- a group bit of zero
at_end : (left m bits count : ℕ) (s : List Bool) → 0 < left → 0 < m → IsWindow left bits count s → 1 ≤ count → bits % 2 ≡ 0 → (tail_bits left m s ≡ 1) × (tail_ahead left m s ≡ replicate m false)
at_end left m bits count s some digit window there even = tail_end left m s _ some digit (first_bit s bits count false window.bits there (ap (λ b. eqb b 1) even))

pub returns-then-cursor-eq0-clause-read : goal.returns-then-cursor-eq0-clause-read
returns-then-cursor-eq0-clause-read g c =
    let now = c.loop-n.invariant in
    let next = c.sees.new.self in
    let over = rw (c.sees.ensures.left, c.sees.ensures.reader) at (at_end next.left (c.args.size - c.loop-n.n) next.bits next.count (rest next.reader) (omega (arith, c.sees.ensures.left, c.if-cursor-gt0.true)) (omega (arith, c.loop-n-test.true)) next.window (c.sees.ensures.there c.if-not-sees.false) c.if-cursor-eq0.true) in
    let taken = rw (c.sees.ensures.left, c.sees.ensures.reader) at c.pass.ensures.taken in
    finished c.args.size c.loop-n.n c.args.n _ _ _ now.within (omega (arith, c.requires.words, g.met.P.Plane.long c.loop-n.plane)) now.clear now.above now.digits over.1 (Passes-end (Passes-part 0 now.passes over.0 taken) refl)

-- no bit or no rank is left
pub returns-clause-read : goal.returns-clause-read
returns-clause-read g c =
    let now = c.loop-n.invariant in
    let none : (c.loop-n.cursor.left ≡ 0) ⊎ (c.args.size - c.loop-n.n ≡ 0) = search (rules, then-loop-n-test+else-cursor-gt0, else-loop-n-test) in
    let over = tail_over c.loop-n.cursor.left (c.args.size - c.loop-n.n) (rest c.loop-n.cursor.reader) none in
    finished c.args.size c.loop-n.n c.args.n _ _ _ now.within (omega (arith, c.requires.words, g.met.P.Plane.long c.loop-n.plane)) now.clear now.above now.digits over.1 (Passes-end now.passes over.0)
