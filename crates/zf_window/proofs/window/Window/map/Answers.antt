use Rattle.std.proofs.Common.{sym, ap, subst, ◌∙◌}
use Rattle.zf_base.specs.Positions.{IsPosition}
use Rattle.zf_window.{specs.Positions.{position_at}, proofs.Positions.{position_at-inside}}
use Rattle.zf_window.proofs.Places.{mapped_small, mapped_is}
use Rattle.zf_window.proofs.window.Window.map.Goals as goal

pub stepped-requires : goal.stepped-requires
stepped-requires c =
    mapped_small _ _ _ _ c.self.invariant c.args.p (subst (λ part. IsPosition part.size c.args.p) (sym c.self.view_is) c.requires)

pub returns : goal.returns
returns c =
    let at = subst (λ part. IsPosition part.size c.args.p) (sym c.self.view_is) c.requires in
    let is = mapped_is _ _ _ _ c.self.invariant c.args.p at c.stepped.result c.stepped.ensures ∙ ap (λ part. position_at part c.args.p) c.self.view_is in
    record { value = is; inside = λ ns lies. subst (IsPosition ns) (sym is) (position_at-inside ns c.args.self.now c.args.p lies c.requires) }
