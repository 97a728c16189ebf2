use Rattle.std.proofs.Common.{◌≡◌, ℕ, ◌+◌, ◌-◌, ◌^◌, ◌<◌, ◌≤◌, max, Bool, List, length, take, arith}
use Rattle.std.{specs.Int.{Width}}
use mir.Val.{bits}
use Rattle.zf_spec.{specs.Planes.{code}, specs.ReadPlanes.{planes_in}}
use Rattle.zf_bits.specs.Reader.{rest}
use Rattle.zf_block.{specs.WholePlanes.{rate_whole_from}, proofs.Sizes.{block_sizes}, proofs.WholePlanes.{whole_from-above}}
use Rattle.zf_block.proofs.whole.plane_from.Goals as goal

pub planes_there-requires-clause-some : goal.planes_there-requires-clause-some
planes_there-requires-clause-some g c = omega (arith, block_sizes c.args.d.count c.block_len.result c.args.d.range.0 c.args.d.range.1 c.block_len.ensures.value)

-- of planes of this width and size
of_planes : (w : Width) (d n size least m : ℕ) (s : List Bool) → n ≡ bits w → size ≡ 4 ^ d → least ≤ n → m ≤ n - least → length (code (take m (planes_in (n - least) size s))) ≤ length s
    → (m < n - least → length s < length (code (take (m + 1) (planes_in (n - least) size s)))) → n - m ≡ max least (rate_whole_from w d s)
of_planes w d n size least m s width is within most fits no_more =
    rw width (whole_from-above w d least m s (rw width at within) (rw width at most) (rw (width, is) at fits) (rw (width, is) at no_more))

pub returns-clause-plane : goal.returns-clause-plane
returns-clause-plane g c =
    let s = take c.args.bits (rest c.args.reader.now) in
    let code : c.new-ahead.result ≡ s = rw c.from.ensures at c.new-ahead.ensures in
    let there = rw code at c.planes_there.ensures in
    of_planes g.T.Lane.width c.args.d.count c.WIDTH-width.result c.block_len.result c.args.least c.planes_there.result s (omega (arith, c.WIDTH-width.ensures, g.met.T.Lane.bits_of_width)) c.block_len.ensures.value
    (omega (arith, c.requires.least, c.WIDTH-width.ensures)) there.most there.within there.no_more
