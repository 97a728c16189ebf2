use Rattle.std.proofs.Common.{◌^◌, arith}
use Rattle.zf_cache.{proofs.Sound.{row_of}}
use Rattle.zf_cache.proofs.cache.CacheBy.line.Goals as goal

pub line-requires : goal.line-requires
line-requires g c =
    row_of g.R.Rule.place c.self.inside.body c.args.self.now (4 ^ g.row.D) c.args.b c.line_of-l.result c.self.view_is c.self.invariant.0 c.line_of-l.ensures.place (omega (arith, c.requires))
