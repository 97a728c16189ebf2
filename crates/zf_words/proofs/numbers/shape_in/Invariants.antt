use Rattle.std.{proofs.Common.{◌≡◌, ◌<◌, ◌≤◌, ◌^◌, length, map, take, decimal}, specs.List.{AllByRecursion}}
use Rattle.zf_words.proofs.numbers.shape_in.Given as goal

-- the parts so far are the texts of the sizes so far
abbrev pub invariant-loop-part : goal.invariant-loop-part
invariant-loop-part l = record {
  count : length l.yielded ≡ l.dims;
  four_at_most : l.dims ≤ 4;
  four : length l.sizes ≡ 4;
  small : AllByRecursion (λ n. n < 2 ^ 64) (take l.dims l.sizes);
  parts : map (λ part. part.now) l.yielded ≡ map decimal (take l.dims l.sizes);
}
