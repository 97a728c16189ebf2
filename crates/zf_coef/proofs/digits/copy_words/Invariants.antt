use Rattle.std.proofs.Common.{◌≡◌, ℕ, ◌<◌, ◌≤◌, ◌+◌, map, slice_index_or}
use Rattle.zf_coef.specs.Groups.{word_of}
use Rattle.zf_coef.proofs.digits.copy_words.Given as goal

abbrev pub invariant-loop-j : goal.invariant-loop-j
invariant-loop-j g l =
    record {
      copied : (j : ℕ) → j < l.j → slice_index_or l.words j 0 ≡ word_of (map g.P.Plane.words l.planes) l.number (l.from + j);
      others : (j : ℕ) → l.j ≤ j → slice_index_or l.words j 0 ≡ slice_index_or l.initial.words j 0;
    }
