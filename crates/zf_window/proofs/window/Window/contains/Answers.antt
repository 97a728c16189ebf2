use Rattle.std.{proofs.Common.{sym, subst, ◌∙◌}, specs.Prelude.{◌↔◌, IsTrue}}
use Rattle.zf_base.specs.Positions.{IsPosition}
use Rattle.zf_window.proofs.Axes.{IsPosition-inside, inside-IsPosition}
use Rattle.zf_window.proofs.window.Window.contains.Goals as goal

pub returns : goal.returns
returns c =
    let four = c.self.invariant.four_at_most in
    let sizes = c.self.invariant.unused.sizes in
    subst (λ part. IsTrue c.is_inside.result ↔ IsPosition part.size c.args.p) c.self.view_is
    (λ yes. IsPosition-inside _ _ c.args.p four sizes (sym c.is_inside.ensures ∙ yes), λ at. c.is_inside.ensures ∙ inside-IsPosition _ _ c.args.p four sizes at)
