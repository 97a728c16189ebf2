use Rattle.std.proofs.Common.{◌≡◌, ◌*◌, ◌^◌}
use Rattle.zf_view.specs.Sums.{touched_to, sum_found}
use Rattle.zf_window.specs.Bounds.{IsUpTo}
use Rattle.zf_view.proofs.sum.sum_of.Given as goal

abbrev pub invariant-loop-number : goal.invariant-loop-number
invariant-loop-number g l =
    let k = g.A.Reads.kept l.fn.array in
    let first = g.A.Reads.state l.fn.array in
    record {
      kept : g.A.Reads.kept l.array ≡ k;
      touched : g.A.Reads.state l.array ≡ touched_to (g.A.Reads.format k) (g.A.Reads.shape k) first l.fn.window l.number;
      found : l.sum ≡ sum_found (g.A.Reads.format k) (g.A.Reads.shape k) first l.fn.window l.number;
      small : IsUpTo (2 ^ 63 * l.number) l.sum;
      walk : l.walk ≡ record { window = l.fn.window; next = l.number };
    }
