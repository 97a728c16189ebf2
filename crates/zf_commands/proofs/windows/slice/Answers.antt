use Rattle.std.proofs.Common.{rules, ◌≡◌, ◌∙◌, refl, sym, ap, subst, true}
use Rattle.zf_cached.{specs.Windows.{Window as Part, LiesIn, has_place, sliced}}
use Rattle.zf_cached.proofs.Windows.{LiesIn-sliced}
use Rattle.zf_commands.proofs.Commanding.{is_not, no_range, cut}
use Rattle.zf_commands.proofs.windows.slice.Goals as goal

pub use_window-requires-clause-inside : goal.use_window-requires-clause-inside
use_window-requires-clause-inside g c =
    let s = g.A.Subject.session c.args.a.now in
    let Cut : Part → Part = λ u. sliced u c.args.axis c.args.at in
    let there : has_place s.window c.args.axis c.args.at ≡ true = sym (ap (λ (u : Part). has_place u c.args.axis c.args.at) c.window.ensures) ∙ c.in-Some.ensures.found.0 refl in
    subst (LiesIn s.shape) (sym (c.in-Some.ensures.some ∙ ap Cut c.window.ensures)) (LiesIn-sliced s.shape s.window c.args.axis c.args.at c.requires.window there)

pub returns-in_default : goal.returns-in_default
returns-in_default g c = search (rules, no_range, is_not)

pub returns : goal.returns
returns g c =
    cut g.A.Subject c.args.a.now c.requires (g.met.A.Target.whole c.args.a.now) c.use_window.new.self c.in-Some.part c.use_window.ensures c.args.axis c.args.at
    (sym (ap (λ (u : Part). has_place u c.args.axis c.args.at) c.window.ensures) ∙ c.in-Some.ensures.found.0 refl)
    (c.in-Some.ensures.some ∙ ap (λ (u : Part). sliced u c.args.axis c.args.at) c.window.ensures)
