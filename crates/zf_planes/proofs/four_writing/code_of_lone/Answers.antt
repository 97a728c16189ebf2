use Rattle.std.proofs.Common.{rules, ◌≡◌, ◌+◌, ◌*◌, ◌%◌, ◌^◌, arith}
use Rattle.std.{proofs.Math.Nat.{mod-lt}, proofs.lemmas.Nat.{one_shl, pow_pos}}
use Rattle.zf_spec.proofs.Fields.{field-mod}
use Rattle.zf_planes.proofs.Lone.{lone_bits}
use Rattle.zf_planes.proofs.four_writing.code_of_lone.Goals as goal

-- the bits are no more than the code has
power : (c : goal.After-pairs_of_top) → 1 * 2 ^ (1 + 2 * c.from.result) % 2 ^ 64 ≡ 2 ^ (1 + 2 * c.from.result)
power c = one_shl (1 + 2 * c.from.result) 64 (omega (arith, c.from.ensures, c.requires.few))

pub nonzero_rem-bits : goal.nonzero_rem-bits
nonzero_rem-bits c = rw (power c) (pow_pos (1 + 2 * c.from.result))

pub returns-clause-bits : goal.returns-clause-bits
returns-clause-bits c = search (rules, power, field-mod, lone_bits)

pub returns-clause-small : goal.returns-clause-small
returns-clause-small c = rw (power c) (mod-lt (1 + 2 * c.pairs_of_top.result) (pow_pos (1 + 2 * c.from.result)))
