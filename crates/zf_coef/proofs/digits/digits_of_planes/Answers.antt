use Rattle.std.{proofs.Common.{rules}, proofs.lemmas.List.{length-map}}
use Rattle.zf_coef.proofs.Prefixes.{each_long}
use Rattle.zf_coef.proofs.Transposed.{digits_of_groups, below_planes}
use Rattle.zf_coef.proofs.digits.digits_of_planes.Goals as goal

pub returns-clause-digits : goal.returns-clause-digits
returns-clause-digits g c =
    let each = each_long g.P.Plane.words g.P.Plane.word_count g.met.P.Plane.long c.args.planes.now in
    search (rules, digits_of_groups, length-map)

pub returns-clause-below : goal.returns-clause-below
returns-clause-below g c = search (rules, length-map, below_planes)
