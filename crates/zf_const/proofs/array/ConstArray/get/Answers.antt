use Rattle.std.proofs.Common.{List, ℕ, length, subst, lit<, rules}
use Rattle.zf_base.{specs.Positions.{used_axes}, specs.Places.{IsAt}}
use Rattle.zf_const.proofs.array.ConstArray.get.Goals as goal

pub place_in-b-requires : goal.place_in-b-requires
place_in-b-requires g c = search rules

pub value_at-requires : goal.value_at-requires
value_at-requires g c = (lit< tt, (used_axes (length c.shape.result) c.args.p, subst (λ (ns : List ℕ). IsAt ns (used_axes (length c.shape.result) c.args.p) c.place_in-b.result.0 c.place_in-b.result.1) c.shape.ensures.value c.place_in-b.ensures.at))

pub returns : goal.returns
returns g c = search rules
