use Rattle.std.proofs.Common.{◌≡◌, ℕ, ◌-◌, ◌*◌, ◌%◌, ◌^◌, ◌∷◌, min, replicate, refl, ap, subst, ◌∙◌, arith}
use mir.Val.{bits}
use Rattle.zf_spec.{specs.Planes.{planes_of}, specs.ReadPlanes.{planes_in}}
use Rattle.zf_coef.specs.HeldDigits.{digits_in}
use Rattle.zf_bits.specs.Reader.{rest}
use Rattle.zf_block.{specs.Block.{AreAbove}, proofs.Widths.{width_bounds}, proofs.Sizes.{block_sizes}}
use Rattle.zf_block.{specs.ReadBlocks.{prec_planes, prec_len}, proofs.FirstAlone.{uncut_first, passes_first}}
use Rattle.zf_block.proofs.precision.PrecisionBlockCode.read_first.Goals as goal

pub returns : goal.returns
unfolding prec_len prec_planes
returns g c =
    let s = rest c.args.reader.now in
    let size = 4 ^ c.args.d.count in
    let first = c.in_ok-first.first in
    let prec = c.min-prec.result in
    let width = c.WIDTH-width.result in
    let word = first.digits * 2 ^ (width - prec) % 2 ^ 64 in
    let top : prec ≡ min c.args.self.now.prec (bits g.T.Lane.width) = c.min-prec.ensures ∙ ap (min c.args.self.now.prec) (c.WIDTH-width.ensures ∙ g.met.T.Lane.bits_of_width) in
    let Above : ℕ → ℕ → Type 0 = λ p w. AreAbove size (planes_in p size s) (planes_of w (digits_in w (word ∷ replicate (size - 1) 0))) in
    let bounds = width_bounds g.T.Lane.width g.T.Lane.WIDTH g.met.T.Lane.two_widths g.met.T.Lane.bits_of_width in
    let sizes = block_sizes c.args.d.count _ c.args.d.range.0 c.args.d.range.1 refl in
    let held : Above prec width = uncut_first size width prec first.digits first.len word s sizes (omega arith) (omega (arith, bounds.1, c.WIDTH-width.ensures)) refl c.in_ok-first.ensures in (
      tt,
      rw top at (passes_first size prec first.digits first.len c.args.reader.now c.skip.new.self sizes c.in_ok-first.ensures c.skip.ensures),
      subst (Above (min c.args.self.now.prec (bits g.T.Lane.width))) c.WIDTH-width.ensures (subst (λ p. Above p width) top held),
    )
