use Rattle.std.proofs.Common.{rules, ◌∙◌, sym, ap, subst, ◌^◌, arith}
use Rattle.zf_spec.specs.Grid.{IsShape}
use Rattle.zf_base.specs.Positions.{IsPosition}
use Rattle.zf_cached.specs.Windows.{Window as Part, LiesIn}
use Rattle.zf_window.specs.Positions.{position_at}
use Rattle.zf_commands.{proofs.Passing.{up_to_less, small_is}}
use Rattle.zf_commands.proofs.Commanding.{outside_window, no_range, got_there}
use Rattle.zf_commands.proofs.values.vget.Goals as goal

pub returns-then-not-contains : goal.returns-then-not-contains
returns-then-not-contains g c = search (rules, no_range, outside_window)

pub number-requires : goal.number-requires
number-requires g c =
    let s = g.A.Subject.session c.args.a.now in record {
      sound = c.requires.ready.sound;
      position = c.map.ensures.inside s.shape (subst (LiesIn s.shape) (sym c.window-window.ensures) c.requires.ready.window);
    }

pub returns : goal.returns
returns g c =
    got_there g.A.Subject c.args.a.now c.requires.ready (g.met.A.Target.whole c.args.a.now) c.number.new.a c.map.result _ c.number.ensures.touched
    (small_is c.number.result (up_to_less (2 ^ 63) (2 ^ 100) c.number.result (omega arith) c.number.ensures.bound) ∙ c.number.ensures.value)
    (subst IsShape c.sizes.ensures c.dims-dims.ensures.shape) c.args.p
    (subst (λ (u : Part). IsPosition u.size c.args.p) c.window-window.ensures (c.contains.ensures.0 c.if-not-contains.false))
    (c.map.ensures.value ∙ ap (λ (u : Part). position_at u c.args.p) c.window-window.ensures)
