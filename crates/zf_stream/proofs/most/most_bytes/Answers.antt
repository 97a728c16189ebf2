use Rattle.std.proofs.Common.{sym, subst, arith}
use Rattle.zf_header.specs.HeaderBits.{IsMode, IsRate}
use Rattle.zf_stream.proofs.Lengths.{stream_at_rate}
use Rattle.zf_stream.proofs.most.most_bytes.Goals as goal

pub returns-in-Rate-clause-bound : goal.returns-in-Rate-clause-bound
returns-in-Rate-clause-bound c =
    let h = c.args.h.now in
    let rate : IsRate h.mode = subst IsRate (sym c.in-Rate.is) (subst IsMode c.in-Rate.is c.requires) in
    λ raw. omega (arith, stream_at_rate h raw rate, c.rate_bytes.ensures)
