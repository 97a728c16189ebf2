use Rattle.std.proofs.Common.{refl, sym, ap, subst, ◌∙◌, length}
use Rattle.zf_cached.{specs.Windows.{LiesIn}, specs.Commands.{Command}}
use Rattle.zf_window.specs.WindowFields.{window_of, view_fault}
use Rattle.zf_commands.{specs.Sittings.{place_in}, proofs.Commanding.{no_window, no_size, viewed}}
use Rattle.zf_commands.proofs.windows.view.Goals as goal

pub use_window-requires-clause-inside : goal.use_window-requires-clause-inside
use_window-requires-clause-inside g c = subst (λ ms. LiesIn ms c.in-Ok.part) c.sizes.ensures c.in-Ok.ensures.inside

pub returns-in_default : goal.returns-in_default
returns-in_default g c =
    let s = g.A.Subject.session c.args.a.now in
    no_size g.A.Subject c.args.a.now c.requires.ready (g.met.A.Target.whole c.args.a.now) (Command.view (place_in s c.args.origin) (place_in s c.args.size) (place_in s c.args.step)) refl
    (no_window s.shape (window_of (length s.shape) c.args.origin c.args.size c.args.step) c.in_default.field-0
    (ap (λ ms. view_fault ms (window_of (length ms) c.args.origin c.args.size c.args.step)) (sym c.sizes.ensures) ∙ sym c.in_default.ensures.fault))

pub returns : goal.returns
returns g c =
    let s = g.A.Subject.session c.args.a.now in
    viewed g.A.Subject c.args.a.now c.requires.ready (g.met.A.Target.whole c.args.a.now) c.use_window.new.self c.in-Ok.part c.use_window.ensures
    (place_in s c.args.origin) (place_in s c.args.size) (place_in s c.args.step)
    (c.in-Ok.ensures.window ∙ ap (λ ms. window_of (length ms) c.args.origin c.args.size c.args.step) c.sizes.ensures) (subst (λ ms. LiesIn ms c.in-Ok.part) c.sizes.ensures c.in-Ok.ensures.inside)
