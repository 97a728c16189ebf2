use Rattle.std.proofs.Common.{refl, inl, inr, arith}
use Rattle.zf_pad.proofs.Copying.{first_within, can_scatter}
use Rattle.zf_pad.proofs.copies.scatter.Goals as goal

pub counted_from-to-requires : goal.counted_from-to-requires
counted_from-to-requires g c = omega (arith, first_within _ c.args.e.now _ _ _ c.requires.fits)

pub copy-requires : goal.copy-requires
copy-requires g c =
    rw c.places-from.ensures
    (can_scatter c.args.layout.now _ c.args.e.now _ _ _ 4 c.counted_from-to.ensures.counted c.counted_from-to.ensures.step c.requires.fits (inr (refl, c.has_whole_rows.ensures.0 c.if-has_whole_rows.true)) c.requires.one_to_one)

pub copy-requires-else-has_whole_rows : goal.copy-requires-else-has_whole_rows
copy-requires-else-has_whole_rows g c =
    rw c.places-from.ensures (can_scatter c.args.layout.now _ c.args.e.now _ _ _ 1 c.counted_from-to.ensures.counted c.counted_from-to.ensures.step c.requires.fits (inl refl) c.requires.one_to_one)
