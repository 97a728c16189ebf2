use Rattle.std.proofs.Common.{rules, ◌≡◌, ℕ, ◌+◌, ◌-◌, ◌*◌, ◌≤◌, Bool, List, ◌++◌, length, take, drop, sym, ap, ◌∙◌, arith, length-drop, length-take}
use Rattle.std.proofs.lemmas.List.{take-append-drop, drop-drop, take_all}
use Rattle.zf_spec.{specs.HeldPlanes.{digits_held}, proofs.HeldPlanes.{length-digits_held}}
use Rattle.zf_bits.proofs.Appending.{Appends-same}
use Rattle.zf_planes.{proofs.Budgets.{Remains-same, Remains-more, Remains-end}, proofs.Digits.{field_in_word}}
use Rattle.zf_planes.proofs.encoding.write_digits.Goals as goal

-- the next n digits, and those behind them
split_next : (at n : ℕ) (ds : List Bool) → drop at ds ≡ take n (drop at ds) ++ drop (at + n) ds
split_next at n ds = sym (ap (λ (xs : List Bool). take n (drop at ds) ++ xs) (sym (drop-drop n at ds)) ∙ take-append-drop n (drop at ds))

pub loop-at-preserved : goal.loop-at-preserved
loop-at-preserved g c =
    let ws = g.P.Plane.words c.args.plane.now in
    let ds = digits_held c.args.to ws in
    let at = c.loop-at.at in
    let n = c.min-n.result in
    let left = c.args.left - (at - c.args.from) in
    let enough : c.args.to ≤ 64 * length ws = omega (arith, c.requires.words, g.met.P.Plane.long c.args.plane.now) in
    let long = length-digits_held c.args.to ws enough in
    let few : n ≤ left = omega (arith, c.min-n.ensures, c.min-count.ensures, c.loop-at.invariant.from, c.loop-at-test.true) in
    let in_plane : at + n ≤ c.args.to = omega (arith, c.min-n.ensures, c.min-count.ensures, c.requires.order, c.loop-at.invariant.from, c.loop-at-test.true) in
    let field = field_in_word c.args.to at n c.word.result ws c.word.ensures enough (omega (arith, c.min-n.ensures)) in_plane in
    let more = take n (drop at ds) in
    let count : length more ≡ n = omega (arith, length-take n (drop at ds), length-drop at ds, long) in
    let appends = Appends-same c.write_reserved.ensures.bits (field ∙ sym (take_all left more (omega (arith, count, few)))) in
    let written = Remains-more more (drop (at + n) ds) (Remains-same c.loop-at.invariant.remains (split_next at n ds)) appends in
    search rules

pub returns-clause-bits : goal.returns-clause-bits
returns-clause-bits g c =
    let ws = g.P.Plane.words c.args.plane.now in
    let ds = digits_held c.args.to ws in
    let long = length-digits_held c.args.to ws (omega (arith, c.requires.words, g.met.P.Plane.long c.args.plane.now)) in
    Remains-end c.loop-at.invariant.remains (omega (arith, long, length-drop c.loop-at.at ds, c.min-count.ensures, c.loop-at-test.false, c.loop-at.invariant.from, c.requires.order))
