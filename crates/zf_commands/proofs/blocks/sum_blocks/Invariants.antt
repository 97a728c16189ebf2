use Rattle.std.proofs.Common.{◌≡◌, ◌-◌, ◌*◌, ◌^◌}
use Rattle.zf_spec.specs.Grid.{upto, count_from, blocks}
use Rattle.zf_cached.specs.Steps.{summed, total}
use Rattle.zf_window.specs.Bounds.{IsUpTo}
use Rattle.zf_commands.{specs.Sittings.{OnState}, proofs.Passing.{sum_from}}
use Rattle.zf_commands.proofs.blocks.sum_blocks.Given as goal

abbrev pub invariant-loop-b : goal.invariant-loop-b
invariant-loop-b g l =
    let S = g.A.Subject.setting (g.A.Subject.kept l.fn.a) in
    let s = g.A.Subject.session l.fn.a in
    let t = g.A.Subject.session l.a in
    let n = blocks s.shape in
    record {
      kept : g.A.Subject.kept l.a ≡ g.A.Subject.kept l.fn.a;
      stays : OnState s t;
      small : IsUpTo (2 ^ 71 * l.b) l.sum;
      sum : summed S (λ b. b) (λ b values. total values) (upto n) s ≡ sum_from S (λ b. b) (λ b values. total values) (count_from l.b (n - l.b)) t l.sum;
      sound : g.A.Subject.sound l.a;
    }
