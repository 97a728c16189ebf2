-- The place is that of the code that comes next.
use Rattle.std.proofs.Common.{◌≡◌}
use Rattle.zf_index.specs.Spans.{index_of, place}
use Rattle.zf_index.proofs.index.listed_span.Given as goal

abbrev pub invariant-loop-code : goal.invariant-loop-code
invariant-loop-code l = l.at ≡ place (index_of l.places l.lens) l.code
