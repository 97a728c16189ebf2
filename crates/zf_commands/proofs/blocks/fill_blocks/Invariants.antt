use Rattle.std.proofs.Common.{◌≡◌, ◌-◌}
use Rattle.zf_spec.specs.Grid.{upto, count_from, blocks}
use Rattle.zf_cached.specs.Steps.{filled_below}
use Rattle.zf_commands.specs.Sittings.{OnState}
use Rattle.zf_commands.proofs.blocks.fill_blocks.Given as goal

abbrev pub invariant-loop-b : goal.invariant-loop-b
invariant-loop-b g l =
    let S = g.A.Subject.setting (g.A.Subject.kept l.fn.a) in
    let s = g.A.Subject.session l.fn.a in
    let t = g.A.Subject.session l.a in
    let x = g.T.Lane.value l.fn.v in
    let n = blocks s.shape in
    record {
      kept : g.A.Subject.kept l.a ≡ g.A.Subject.kept l.fn.a;
      stays : OnState s t;
      filled : filled_below S s x (upto n) ≡ filled_below S t x (count_from l.b (n - l.b));
      sound : g.A.Subject.sound l.a;
    }
