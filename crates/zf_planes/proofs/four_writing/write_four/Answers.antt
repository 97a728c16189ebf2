use Rattle.std.proofs.Common.{◌+◌, ◌-◌, Bool, List, ◌++◌, map, take, refl, ap, ◌∙◌, arith, append-nil, length-append}
use Rattle.zf_spec.{specs.Numbers.{field}, specs.Planes.{planes_of, code, code_from}, proofs.Fields.{length-field}}
use Rattle.zf_planes.{specs.Spread.{top_planes}, specs.Writes.{Remains, Writes}}
use Rattle.zf_planes.proofs.Budgets.{Remains-same, Remains-all, Remains-last}
use Rattle.zf_planes.proofs.TopPlanes.{below, no_top_planes, remains_four}
use Rattle.zf_planes.proofs.four_writing.write_four.Goals as goal

-- ---- no other plane

-- the zeros at the top remain
zeros : (c : goal.After-write_part-arg-1) → Remains c.args.out.now c.args.out.now c.args.budget c.args.budget (code (take c.args.prec (planes_of c.args.width (map (field c.args.width) c.args.digits.now)))) (field c.from-len.result 0)
zeros c =
    let words = map (below (64 - c.args.width + c.args.zeros)) c.args.digits.now in
    let none = ap (code_from 0) (no_top_planes (c.args.prec - c.args.zeros) words (omega (arith, c.if-zeros-prec.true))) in
    Remains-same (remains_four c.args.out.now c.args.budget c.args.width c.args.prec c.args.zeros _ c.args.digits.now _ c.told-digits c.requires.width c.requires.planes c.requires.within c.requires.zeros c.requires.fits c.from-len.ensures refl)
    (ap (λ (bs : List Bool). field c.from-len.result 0 ++ bs) none ∙ append-nil (field c.from-len.result 0))

pub write_part-requires-clause-fits : goal.write_part-requires-clause-fits
write_part-requires-clause-fits c = omega (arith, (zeros c).fits, length-field c.from-len.result 0)

-- they are written
zeros_written : (c : goal.After-write_part) → Writes c.args.budget c.write_part.result c.args.out.now c.write_part.new.out (code (take c.args.prec (planes_of c.args.width (map (field c.args.width) c.args.digits.now))))
zeros_written c = Remains-last c.from-len.result 0 (zeros c.before) c.write_part.ensures.bits c.write_part.ensures.left

pub returns-then-zeros-prec-clause-bits : goal.returns-then-zeros-prec-clause-bits
returns-then-zeros-prec-clause-bits c = (zeros_written c).bits

pub returns-then-zeros-prec-clause-count : goal.returns-then-zeros-prec-clause-count
returns-then-zeros-prec-clause-count c = omega (arith, (zeros_written c).left)

-- ---- the other planes

-- they remain behind the zeros
all : (c : goal.After-write_top-arg-1) → Remains c.args.out.now c.args.out.now c.args.budget c.args.budget (code (take c.args.prec (planes_of c.args.width (map (field c.args.width) c.args.digits.now))))
    (field c.from-len.result 0 ++ code_from 0 (top_planes (c.args.prec - c.args.zeros) c.below_top-words.result))
all c =
    remains_four c.args.out.now c.args.budget c.args.width c.args.prec c.args.zeros _ c.args.digits.now _ c.told-digits c.requires.width c.requires.planes c.requires.within c.requires.zeros c.requires.fits c.from-len.ensures c.below_top-words.ensures

pub write_top-requires-clause-fits : goal.write_top-requires-clause-fits
write_top-requires-clause-fits c =
    let code' = code_from 0 (top_planes (c.args.prec - c.args.zeros) c.below_top-words.result) in
    omega (arith, (all c).fits, length-append (field c.from-len.result 0) code', length-field c.from-len.result 0)

pub returns-clause-bits : goal.returns-clause-bits
returns-clause-bits c = (Remains-all _ (all c.before) c.write_top.ensures).bits

pub returns-clause-count : goal.returns-clause-count
returns-clause-count c = omega (arith, (Remains-all _ (all c.before) c.write_top.ensures).left)
