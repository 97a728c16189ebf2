use Rattle.std.proofs.Common.{rules, ◌≡◌, ◌+◌, ◌-◌, ◌*◌, arith}
use Rattle.std.{proofs.Math.Nat.{mul-le-mul_right}, proofs.lemmas.Int.{to_z-of_z}, proofs.lemmas.Slice.{take-put_mid}}
use Rattle.zf_narrow.{proofs.OneMore.{promoted-more}}
use Rattle.zf_narrow.proofs.raw.put_promoted.Goals as goal

pub loop-i-preserved : goal.loop-i-preserved
loop-i-preserved c =
    let i = c.loop-i.i in
    let len = c.size-len.result in
    let count : i * len + len - i * len ≡ len = omega arith in search (rules, to_z-of_z, mul-le-mul_right, take-put_mid, promoted-more)
