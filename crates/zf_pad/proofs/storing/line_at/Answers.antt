use Rattle.std.proofs.Common.{arith}
use Rattle.zf_pad.proofs.StoredLines.{known_here, part_fits}
use Rattle.zf_pad.proofs.storing.line_at.Goals as goal

pub returns-clause-part : goal.returns-clause-part
returns-clause-part c = let known = c.line_after.ensures.known in record {
  shape = c.dims-dims.ensures.shape;
  n_is = c.size-n.ensures;
  before = c.requires.within;
  is = known_here _ c.line_after.result _ known c.line_after.ensures.number;
  below = omega (arith, known.below);
  fits = known.fits;
  within = c.requires.line;
  begins = c.requires.first;
  whole = c.requires.whole;
}

pub returns-clause-fits : goal.returns-clause-fits
returns-clause-fits c = part_fits _ _ _ _ _ _ _ (returns-clause-part c)
