use Rattle.std.proofs.Common.{rules, ℕ, ◌-◌, ◌^◌, ◌∷◌, take, replicate, refl, subst, arith}
use Rattle.zf_spec.{specs.Planes.{planes_of}, specs.Kept.{kept_planes}, specs.ReadPlanes.{planes_in}}
use Rattle.zf_coef.specs.HeldDigits.{digits_in}
use Rattle.zf_bits.specs.Reader.{rest}
use Rattle.zf_block.{specs.Block.{AreAbove}, proofs.FirstAlone.{rate_first}, proofs.Sizes.{block_sizes}}
use Rattle.zf_block.proofs.rate.RateBlockCode.read_first.Goals as goal

pub returns : goal.returns
returns g c =
    let s = rest c.args.reader.now in
    let budget = c.args.self.now.bits in
    let size = 4 ^ c.args.d.count in
    let first = c.in_ok-first.first in
    let Above : ℕ → Type 0 = λ w. AreAbove size (kept_planes budget (planes_in w size (take budget s))) (planes_of w (digits_in w (first.digits ∷ replicate (size - 1) 0))) in
    (tt, search rules, subst Above c.WIDTH.ensures (rate_first size c.WIDTH.result first.digits first.len budget s (block_sizes c.args.d.count _ c.args.d.range.0 c.args.d.range.1 refl) (omega arith) (omega arith) c.in_ok-first.ensures))
