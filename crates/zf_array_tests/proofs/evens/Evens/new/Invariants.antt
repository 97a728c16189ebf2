use Rattle.std.proofs.Common.{◌≡◌, ℕ, ◌<◌, pos, [], replicate, get_or, vec_len}
use Rattle.zf_array_tests.proofs.evens.Evens.new.Given as goal

-- so many blocks of zeros
abbrev pub invariant-loop : goal.invariant-loop
invariant-loop l = (vec_len l.zeros ≡ l.counter) × ((b : ℕ) → b < l.counter → get_or l.zeros.items b [] ≡ replicate 4 (pos 0))
