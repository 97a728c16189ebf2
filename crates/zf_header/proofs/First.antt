-- The first 19 bytes decide.
use Rattle.std.proofs.Common.{rules, ◌≡◌, ℕ, ◌+◌, ◌-◌, ◌*◌, ◌/◌, ◌<◌, ◌≤◌, Bool, List, take, sym, ap, ◌∙◌, arith, length-take}
use Rattle.std.{proofs.lemmas.List.{take-take, drop-take, take_all}, proofs.lemmas.Bool.{cases_lt, le-ltb}}
use Rattle.zf_spec.{specs.Stream.{to_bits}, proofs.Counting.{map-upto_same}}
use Rattle.zf_bits.proofs.Words.{take-words}
use Rattle.zf_header.specs.HeaderFields.{number_at, sizes_in, is_long_rate, header_in}
use Rattle.zf_header.{specs.HeaderFaults.{header_fault}, proofs.Bits.{number_at_below}}

-- a number within them is the same
number_at-take : (k at n : ℕ) (s : List Bool) → at + n ≤ k → number_at at n (take k s) ≡ number_at at n s
unfolding number_at
number_at-take k at n s within =
    let parts : at + (k - at) ≡ k = omega arith in search (rules, drop-take, take-take)

-- ---- bits with the same numbers at all places of a header have the same fields

pub record SameNumbers (r s : List Bool) : Type 0 where
  pub same : (at n : ℕ) → at + n ≤ 152 → number_at at n r ≡ number_at at n s

same_first : (bytes : List ℕ) → SameNumbers (to_bits (take 19 bytes)) (to_bits bytes)
same_first bytes = record { same = λ at n within. ap (number_at at n) (sym (take-words 8 19 bytes)) ∙ number_at-take 152 at n (to_bits bytes) within }

size_within : (d axis : ℕ) → 1 ≤ d → d ≤ 4 → axis < d → (36 + axis * (48 / d)) + 48 / d ≤ 152
size_within d axis some four used = grind arith

same_sizes : (r s : List Bool) → SameNumbers r s → sizes_in r ≡ sizes_in s
same_sizes r s same = search (rules, number_at_below, map-upto_same, size_within)

same_long : (r s : List Bool) → SameNumbers r s → is_long_rate r ≡ is_long_rate s
same_long r s same = search rules

same_header : (r s : List Bool) → SameNumbers r s → header_in r ≡ header_in s
same_header r s same = search (rules, same_sizes)

pub header_in-first : (bytes : List ℕ) → header_in (to_bits (take 19 bytes)) ≡ header_in (to_bits bytes)
header_in-first bytes = same_header _ _ (same_first bytes)

-- ---- and the same faults, where none is for want of bytes

pub header_fault-first : (bytes : List ℕ) → header_fault (take 19 bytes) ≡ header_fault bytes
unfolding header_fault
header_fault-first bytes = let same = same_first bytes in search (rules, cases_lt, take_all, length-take, le-ltb, same_sizes, same_long)
