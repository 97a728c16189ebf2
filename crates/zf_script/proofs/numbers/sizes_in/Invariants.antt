use Rattle.std.proofs.Common.{◌≡◌, ◌++◌, ℕ, ◌<◌, ◌≤◌, true, length, map, take, get_or, decimal}
use Rattle.std.specs.List.{list_all}
use Rattle.zf_cached.specs.Grammar.{is_number, cut_at}
use Rattle.zf_script.proofs.numbers.sizes_in.Given as goal

-- the word is cut into the texts of the numbers so far and the parts of the rest
abbrev pub invariant-loop-count : goal.invariant-loop-count
invariant-loop-count l = record {
  four : length l.numbers ≡ 4;
  small : list_all is_number (take l.count l.numbers) ≡ true;
  parts : cut_at l.byte l.word ≡ map decimal (take l.count l.numbers) ++ cut_at l.byte l.rest;
  others : (k : ℕ) → l.count ≤ k → k < 4 → get_or l.numbers k 0 ≡ l.unused;
}
