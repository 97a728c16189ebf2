use Rattle.std.proofs.Common.{◌≡◌, ℕ, ◌+◌, sym, subst}
use Rattle.zf_base.specs.Positions.{IsPosition}
use Rattle.zf_window.{specs.Positions.{numbered}, proofs.Axes.{inside-IsPosition}, proofs.Walks.{after_is}}
use Rattle.zf_window.proofs.window.Window.after.Goals as goal

pub following-requires : goal.following-requires
following-requires c =
    inside-IsPosition _ _ c.args.p c.self.invariant.four_at_most c.self.invariant.unused.sizes (subst (λ part. IsPosition part.size c.args.p) (sym c.self.view_is) c.requires)

pub returns : goal.returns
returns c =
    let at = subst (λ part. IsPosition part.size c.args.p) (sym c.self.view_is) c.requires in
    subst (λ part. (k : ℕ) → c.args.p ≡ numbered part k → c.following.result ≡ numbered part (k + 1)) c.self.view_is
    (after_is _ _ c.args.p c.following.result c.self.invariant.four_at_most c.self.invariant.unused.sizes at c.following.ensures)
