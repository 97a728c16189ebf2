use Rattle.std.{proofs.Common.{rules, ◌≡◌, ◌+◌, ◌-◌, ◌*◌, arith}, proofs.Math.Nat.{mul-le-mul_right}}
use Rattle.std.{proofs.lemmas.Int.{to_z-of_z}, proofs.lemmas.Slice.{take-put_mid}}
use Rattle.zf_narrow.proofs.OneMore.{demoted-more, length-narrow_bytes, one_more}
use Rattle.zf_narrow.proofs.raw.put_demoted.Goals as goal

pub loop-i-preserved : goal.loop-i-preserved
loop-i-preserved c =
    let n = c.args.n in
    let i = c.loop-i.i in
    let part = c.copy_from_slice.new.self in
    let count : i * 4 + 4 - i * 4 ≡ 4 = omega arith in
    let value = rw count at c.int32-v.ensures in search (rules, to_z-of_z, mul-le-mul_right, length-narrow_bytes, take-put_mid, one_more, demoted-more)
