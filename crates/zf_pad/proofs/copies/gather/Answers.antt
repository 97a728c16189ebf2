use Rattle.std.proofs.Common.{refl, inl, inr, arith}
use Rattle.zf_pad.proofs.Copying.{first_within, can_gather}
use Rattle.zf_pad.proofs.copies.gather.Goals as goal

pub counted_from-from-requires : goal.counted_from-from-requires
counted_from-from-requires g c = omega (arith, first_within _ c.args.e.now _ _ _ c.requires.fits)

pub copy-requires : goal.copy-requires
copy-requires g c = rw c.places-to.ensures (can_gather c.args.layout.now _ c.args.e.now _ _ _ 1 c.counted_from-from.ensures.counted c.counted_from-from.ensures.step c.requires.fits (inl refl))

pub gather_whole-requires-clause-fits : goal.gather_whole-requires-clause-fits
gather_whole-requires-clause-fits g c =
    can_gather c.args.layout.now _ c.args.e.now _ _ _ 4 c.counted_from-from.ensures.counted c.counted_from-from.ensures.step c.requires.fits (inr (refl, c.has_whole_rows.ensures.0 c.if-not-has_whole_rows.false))

pub copy-requires-else-d-gt1 : goal.copy-requires-else-d-gt1
copy-requires-else-d-gt1 g c =
    rw c.places-to.ensures
    (can_gather c.args.layout.now _ c.args.e.now _ _ _ 4 c.counted_from-from.ensures.counted c.counted_from-from.ensures.step c.requires.fits (inr (refl, c.has_whole_rows.ensures.0 c.if-not-has_whole_rows.false)))
