use Rattle.std.proofs.Common.{rules, ◌∙◌, subst, ◌^◌, arith}
use Rattle.zf_base.specs.Positions.{IsPosition}
use Rattle.zf_commands.{proofs.Passing.{up_to_less, small_is}, proofs.Commanding.{outside, no_range, got}}
use Rattle.zf_commands.proofs.values.get.Goals as goal

pub returns-then-not-contains : goal.returns-then-not-contains
returns-then-not-contains g c = search (rules, no_range, outside)

pub number-requires : goal.number-requires
number-requires g c = record { sound = c.requires.ready.sound; position = subst (λ ms. IsPosition ms c.args.p) c.sizes.ensures (c.contains.ensures.0 c.if-not-contains.false) }

pub returns : goal.returns
returns g c =
    got g.A.Subject c.args.a.now c.requires.ready (g.met.A.Target.whole c.args.a.now) c.number.new.a c.args.p _ c.number.ensures.touched
    (small_is c.number.result (up_to_less (2 ^ 63) (2 ^ 100) c.number.result (omega arith) c.number.ensures.bound) ∙ c.number.ensures.value)
    (subst (λ ms. IsPosition ms c.args.p) c.sizes.ensures (c.contains.ensures.0 c.if-not-contains.false))
