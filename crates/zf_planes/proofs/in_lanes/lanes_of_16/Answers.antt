use Rattle.std.proofs.Common.{◌≡◌, ◌+◌, ◌*◌, ◌/◌, ◌%◌, ◌^◌, refl, ◌∙◌, arith}
use Rattle.zf_spec.proofs.Fields.{field-mod}
use Rattle.zf_planes.specs.Fours.{string_planes}
use Rattle.zf_planes.proofs.Lanes.{IsLonger, lanes_behind}
use Rattle.zf_planes.proofs.in_lanes.lanes_of_16.Goals as goal

two : (c : goal.After-lanes_of_4) → IsLonger 1 1 c.lanes_of_4-one.result c.lanes_of_4.result
two c = lanes_behind 1 1 _ _ (omega arith) (omega arith) c.lanes_of_4-one.ensures.below c.lanes_of_4.ensures.below (omega arith)

pub overflow_add-two : goal.overflow_add-two
overflow_add-two c = omega (arith, (two c).small)

three : (c : goal.After-lanes_of_4-2) → IsLonger 2 1 (c.lanes_of_4-one.result * 2 % 2 ^ 64 + c.lanes_of_4.result) c.lanes_of_4-2.result
three c = lanes_behind 2 1 _ _ (two c.before).small (omega arith) (two c.before).below c.lanes_of_4-2.ensures.below (omega arith)

pub overflow_add-three : goal.overflow_add-three
overflow_add-three c = omega (arith, (three c).small)

four : (c : goal.After-lanes_of_4-3) → IsLonger 3 1 ((c.lanes_of_4-one.result * 2 % 2 ^ 64 + c.lanes_of_4.result) * 2 % 2 ^ 64 + c.lanes_of_4-2.result) c.lanes_of_4-3.result
four c = lanes_behind 3 1 _ _ (three c.before).small (omega arith) (three c.before).below c.lanes_of_4-3.ensures.below (omega arith)

pub overflow_add-result : goal.overflow_add-result
overflow_add-result c = omega (arith, (four c).small)

pub returns-clause-digits : goal.returns-clause-digits
unfolding string_planes
returns-clause-digits c =
    let bits = c.args.bits in
    let three_is : bits / 256 % 16 ≡ bits / 16 / 16 % 16 = omega arith in
    let four_is : bits / 4096 ≡ bits / 16 / 16 / 16 % 16 = omega (arith, c.requires.bits) in
    (four c).planes ∙ (rw ((three c.before).planes, (two c.before.before).planes) (
    rw (c.lanes_of_4-one.ensures.digits, c.lanes_of_4.ensures.digits, c.lanes_of_4-2.ensures.digits, c.lanes_of_4-3.ensures.digits) (
    rw (three_is, four_is, field-mod 4 bits, field-mod 4 (bits / 16), field-mod 4 (bits / 16 / 16), field-mod 4 (bits / 16 / 16 / 16)) refl)))

pub returns-clause-below : goal.returns-clause-below
returns-clause-below c = (four c).below
