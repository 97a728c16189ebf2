use Rattle.std.proofs.Common.{◌≡◌, ◌-◌, ◌*◌, ◌^◌, map}
use Rattle.zf_spec.specs.Grid.{count_from, product, coordinates}
use Rattle.zf_base.specs.Places.{block_number}
use Rattle.zf_cached.{specs.Windows.{positions, mapped}, specs.Steps.{value_there, summed}}
use Rattle.zf_window.specs.Bounds.{IsUpTo}
use Rattle.zf_commands.{specs.Sittings.{OnState}, proofs.Passing.{sum_from}}
use Rattle.zf_commands.proofs.windows.sum_of_window.Given as goal

abbrev pub invariant-loop-number : goal.invariant-loop-number
invariant-loop-number g l =
    let S = g.A.Subject.setting (g.A.Subject.kept l.fn.a) in
    let s = g.A.Subject.session l.fn.a in
    let t = g.A.Subject.session l.a in
    let w = s.window in
    let B = block_number s.shape in
    record {
      kept : g.A.Subject.kept l.a ≡ g.A.Subject.kept l.fn.a;
      stays : OnState s t;
      small : IsUpTo (2 ^ 63 * l.number) l.sum;
      sum : summed S B value_there (positions w) s ≡ sum_from S B value_there (map (λ k. mapped w (coordinates w.size k)) (count_from l.number (product w.size - l.number))) t l.sum;
      sound : g.A.Subject.sound l.a;
      walk : l.walk ≡ record { shape = s.shape; window = w; next = l.number };
    }
