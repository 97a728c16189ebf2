use Rattle.std.{proofs.Common.{rules, ap, subst, ◌∙◌, length}, proofs.lemmas.Bool.{false≢true}}
use Rattle.zf_base.{specs.Places.{block_number}, specs.Positions.{used_axes, IsPosition}}
use Rattle.zf_array.specs.Standing.{shape}
use Rattle.zf_run.proofs.Viewing.{not_inside, view_is_none, position_is_none, owns_is}
use Rattle.zf_run.proofs.views.has_position.Goals as goal

pub returns-then-i-views-clause-has : goal.returns-then-i-views-clause-has
returns-then-i-views-clause-has g c v = search (rules, view_is_none)

pub returns-then-not-contains-clause-has : goal.returns-then-not-contains-clause-has
returns-then-not-contains-clause-has g c v = search (rules, position_is_none, not_inside, false≢true)

pub returns-clause-has : goal.returns-clause-has
returns-clause-has g c v =
    let a = c.args.a.now in
    let at = subst (λ ns. IsPosition ns c.args.p) c.shape-shape.ensures.value (c.contains.ensures.0 c.if-not-contains.false) in
    owns_is g.T.Lane.value a c.args.views.now c.args.i (used_axes (length (shape a)) c.args.p) g.T.Lane.width g.row.D c.index-views-i.result c.requires.parts c.if-i-views.false c.index-views-i.is v
    c.owns.result c.place-b.result.0 (c.place-b.ensures.block ∙ ap (λ ns. block_number ns (used_axes (length ns) c.args.p)) c.shape-shape.ensures.value) at.inside c.owns.ensures
