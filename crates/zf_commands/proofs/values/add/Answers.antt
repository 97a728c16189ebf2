use Rattle.std.{proofs.Common.{◌≡◌, ◌∙◌, refl, sym, ap, subst, not, true, false}, specs.Int.{Width, w128}}
use Rattle.std.{proofs.lemmas.Bool.{false≢true}, proofs.lemmas.Int.{to_z-of_z}}
use Rattle.zf_base.specs.Positions.{IsPosition}
use Rattle.zf_cached.{specs.Commands.{Command}, specs.Steps.{is_of_type}}
use Rattle.zf_commands.{specs.Sittings.{place_in}, proofs.Commanding.{outside, no_range, no_value, added}}
use Rattle.zf_commands.proofs.values.add.Goals as goal

pub returns-then-not-contains : goal.returns-then-not-contains
returns-then-not-contains g c =
    let s = g.A.Subject.session c.args.a.now in
    no_range g.A.Subject c.args.a.now c.requires.ready (g.met.A.Target.whole c.args.a.now) (Command.add (place_in s c.args.p) c.args.v) refl refl
    (outside s.shape c.args.p c.requires.unused (λ at. false≢true (sym c.if-not-contains.true ∙ c.contains.ensures.1 (subst (λ ms. IsPosition ms c.args.p) (sym c.sizes.ensures) at))))

pub returns-in_default : goal.returns-in_default
returns-in_default g c =
    let s = g.A.Subject.session c.args.a.now in
    let at = subst (λ ms. IsPosition ms c.args.p) c.sizes.ensures (c.contains.ensures.0 c.if-not-contains.false) in
    no_value g.A.Subject c.args.a.now c.requires.ready (g.met.A.Target.whole c.args.a.now) (Command.add (place_in s c.args.p) c.args.v) refl refl (ap not at.inside)
    (ap not (subst (λ (w : Width). is_of_type w c.args.v ≡ false) (sym (g.met.A.Changing.same_width (g.A.Subject.kept c.args.a.now)))
    (subst (λ x. is_of_type g.T.Lane.width x ≡ false) (to_z-of_z w128 c.args.v c.ranges.v) c.in_default.ensures.none)))

pub increase-requires : goal.increase-requires
increase-requires g c = record { sound = c.requires.ready.sound; position = subst (λ ms. IsPosition ms c.args.p) c.sizes.ensures (c.contains.ensures.0 c.if-not-contains.false) }

pub returns : goal.returns
returns g c =
    added g.A.Subject c.args.a.now c.requires.ready (g.met.A.Target.whole c.args.a.now) c.increase.new.self c.args.v (g.T.Lane.value c.in-Some.v) (c.in-Some.ensures.value ∙ to_z-of_z w128 c.args.v c.ranges.v)
    (subst (λ (w : Width). is_of_type w c.args.v ≡ true) (sym (g.met.A.Changing.same_width (g.A.Subject.kept c.args.a.now)))
    (subst (λ x. is_of_type g.T.Lane.width x ≡ true) (to_z-of_z w128 c.args.v c.ranges.v) c.in-Some.ensures.some))
    c.args.p (subst (λ ms. IsPosition ms c.args.p) c.sizes.ensures (c.contains.ensures.0 c.if-not-contains.false)) g.T.Lane.width (g.met.A.Changing.same_width (g.A.Subject.kept c.args.a.now)) c.increase.ensures
