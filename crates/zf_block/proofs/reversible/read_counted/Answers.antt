use Rattle.std.proofs.Common.{ℕ, ◌-◌, ◌*◌, ◌%◌, ◌^◌, ◌∷◌, replicate, refl, subst, arith}
use Rattle.zf_spec.{specs.Planes.{planes_of}, specs.ReadPlanes.{planes_in}}
use Rattle.zf_coef.specs.HeldDigits.{digits_in}
use Rattle.zf_bits.specs.Reader.{rest}
use Rattle.zf_block.{proofs.ReadCodes.{planes-behind_count, passes-behind_count}, specs.Block.{AreAbove}}
use Rattle.zf_block.{proofs.FirstAlone.{uncut_first, passes_first}, proofs.Widths.{width_bounds}, proofs.Sizes.{block_sizes}}
use Rattle.zf_block.proofs.reversible.read_counted.Goals as goal

pub returns : goal.returns
returns g c =
    let w = g.T.Lane.width in
    let size = 4 ^ c.args.d.count in
    let first = c.in_ok-first.first in
    let prec = c.in_ok-prec.prec in
    let middle = c.read_count.new.reader in
    let count = c.in_ok-prec.ensures in
    let word = first.digits * 2 ^ (c.WIDTH.result - prec) % 2 ^ 64 in
    let bounds = width_bounds w g.T.Lane.WIDTH g.met.T.Lane.two_widths g.met.T.Lane.bits_of_width in
    let Above : ℕ → Type 0 = λ n. AreAbove size (planes_in prec size (rest middle)) (planes_of n (digits_in n (word ∷ replicate (size - 1) 0))) in
    let sizes = block_sizes c.args.d.count _ c.args.d.range.0 c.args.d.range.1 refl in
    let passed = passes_first size prec first.digits first.len middle c.skip.new.self sizes c.in_ok-first.ensures c.skip.ensures in (
      tt,
      rw c.another-place.ensures at (passes-behind_count w size prec c.another-place.result middle count.value count.reads c.skip.new.self passed),
      rw (← c.another-place.ensures, ← planes-behind_count w size prec c.another-place.result middle count.value count.reads)
          (subst Above c.WIDTH.ensures (uncut_first size c.WIDTH.result prec first.digits first.len word (rest middle) sizes (omega (arith, count.within, c.WIDTH.ensures)) (omega (arith, bounds.1, c.WIDTH.ensures)) refl c.in_ok-first.ensures)),
    )
