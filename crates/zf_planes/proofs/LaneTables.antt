-- Tables of planes of four digits in lanes, each entry of which is what the definitions say, by computation.
use Rattle.std.proofs.Common.{rules, ◌≡◌, ℕ, suc, ◌+◌, ◌*◌, ◌/◌, ◌%◌, ◌^◌, ◌-◌, ◌<◌, min, max, Bool, true, false, ◌&&◌, cond, eqb, ltb, List, [], ◌∷◌, get_or, refl, sym, ap, ◌∙◌, arith}
use Rattle.std.proofs.lemmas.Nat.{shr_high, mod_low, mul-add-lt}
use Rattle.std.proofs.lemmas.Bool.{false≢true, and_parts, eqb-true, ltb-true}
use lib.Bits.{bit_and}
use Rattle.zf_spec.{specs.Numbers.{field}, specs.Planes.{code_from, reach_of_all}}
use Rattle.zf_planes.{specs.Decoding.{planes_ahead, planes_bits}, proofs.LanesAhead.{planes_bits-le}}
use Rattle.zf_planes.specs.Lanes.{low_planes, lanes_in, lanes_apart, entry_digits, entry_len, entry_count, entry_reach, AreBelow, AreInSight, AreAtEnd}
use Rattle.zf_planes.proofs.Tables.{same_digits, same_digits-true, each_below, each_below-true}
use Rattle.zf_planes.specs.declared.entries.TheConstants.{LANES}

-- ---- tests that compute

abbrev same_planes : List (List Bool) → List (List Bool) → Bool
same_planes [] [] = true
same_planes [] (q ∷ qs) = false
same_planes (p ∷ ps) [] = false
same_planes (p ∷ ps) (q ∷ qs) = same_digits p q && same_planes ps qs

same_planes-true : (ps qs : List (List Bool)) → same_planes ps qs ≡ true → ps ≡ qs
same_planes-true [] [] e = refl
same_planes-true [] (q ∷ qs) e = absurd (false≢true e)
same_planes-true (p ∷ ps) [] e = absurd (false≢true e)
same_planes-true (p ∷ ps) (q ∷ qs) e =
    let parts = and_parts (same_digits p q) (same_planes ps qs) e in
    ap (λ (d : List Bool). d ∷ ps) (same_digits-true p q parts.0) ∙ ap (λ (rs : List (List Bool)). q ∷ rs) (same_planes-true ps qs parts.1)

abbrev are_below : ℕ → List ℕ → Bool
are_below c [] = true
are_below c (u ∷ words) = ltb u (2 ^ c) && are_below c words

are_below-true : (c : ℕ) (words : List ℕ) → are_below c words ≡ true → AreBelow c words
unfolding AreBelow
are_below-true c [] e = tt
are_below-true c (u ∷ words) e =
    let parts = and_parts (ltb u (2 ^ c)) (are_below c words) e in
    (ltb-true u (2 ^ c) parts.0, are_below-true c words parts.1)

-- ---- planes by the bits that come next

-- c planes in these lanes, whose code of l bits begins these bits, and the ones reach to a
abbrev test_lanes : ℕ → ℕ → ℕ → ℕ → ℕ → ℕ → Bool
test_lanes n bits v l c a =
    same_digits (code_from n (low_planes c (lanes_in 4 v))) (field l bits)
    && (are_below c (lanes_in 4 v) && (ltb 0 c && (ltb c 5 && (ltb 0 l && (ltb l 9 && (eqb a (max n (reach_of_all (low_planes c (lanes_in 4 v)))) && ltb a 5))))))

abbrev test_entry : ℕ → ℕ → ℕ → Bool
test_entry n bits e = test_lanes n bits (lanes_apart (entry_digits e)) (entry_len e) (entry_count e) (entry_reach e)

test_all_lanes : each_below (λ i. test_entry (i / 256) (i % 256) (get_or LANES i 0)) 768 ≡ true
unfolding low_planes lanes_in
test_all_lanes = refl

lanes_tested : (n bits v l c a : ℕ) → test_lanes n bits v l c a ≡ true → AreInSight n bits c v l a
lanes_tested n bits v l c a test =
    search (rules, and_parts, same_digits, ltb-true, same_digits-true, are_below-true, eqb-true)

pub lanes_of_entry : (n bits e : ℕ) → n < 3 → bits < 256 → e ≡ get_or LANES (256 * n + bits) 0
    → AreInSight n bits (entry_count e) (lanes_apart (entry_digits e)) (entry_len e) (entry_reach e)
lanes_of_entry n bits e in_plane eight is =
    let i = 256 * n + bits in
    let prefix : i / 256 ≡ n = omega arith in
    let low : i % 256 ≡ bits = omega arith in
    let test : test_entry n bits e ≡ true =
    cc (
    each_below-true (λ j. test_entry (j / 256) (j % 256) (get_or LANES j 0)) 768 i test_all_lanes (omega arith)) in
    lanes_tested n bits (lanes_apart (entry_digits e)) (entry_len e) (entry_count e) (entry_reach e) test

-- ---- planes by the last bits of a budget

abbrev test_last : ℕ → ℕ → ℕ → ℕ → ℕ → ℕ → ℕ → Bool
test_last n left bits v l c a =
    same_planes (planes_ahead left c 4 n (field left bits)) (low_planes c (lanes_in 4 v))
    && (eqb (planes_bits left c 4 n (field left bits)) l
    && (are_below c (lanes_in 4 v) && (ltb 0 c && (ltb c 5 && (ltb 0 l && (eqb a (max n (reach_of_all (low_planes c (lanes_in 4 v)))) && ltb a 5))))))

abbrev test_end : ℕ → ℕ → ℕ → ℕ → Bool
test_end n left bits e = test_last n left bits (lanes_apart (entry_digits e)) (min (entry_len e) left) (entry_count e) (entry_reach e)

-- the entry where zeros follow, or where with them the ones reach to the last rank, that where a one and zeros follow, if it is less
abbrev pub less_entry : ℕ → ℕ → ℕ
less_entry zeros one = cond (ltb 3 (entry_reach zeros)) (min zeros one) zeros

abbrev pub end_entry : ℕ → ℕ → ℕ → ℕ
end_entry n p bits = less_entry (get_or LANES (256 * n + bits) 0) (get_or LANES (256 * n + (p + bits)) 0)

-- of as many bits, each entry
abbrev test_ends : ℕ → Bool
test_ends left = each_below (λ i. test_end (i / 2 ^ left) left (i % 2 ^ left) (end_entry (i / 2 ^ left) (2 ^ left) (i % 2 ^ left))) (3 * 2 ^ left)

test_all_ends : each_below (λ k. test_ends (suc k)) 7 ≡ true
unfolding low_planes lanes_in planes_ahead planes_bits
test_all_ends = refl

last_tested : (n left bits v l c a : ℕ) → test_last n left bits v l c a ≡ true → AreAtEnd n left bits c v l a
last_tested n left bits v l c a test =
    search (rules, and_parts, eqb-true, ltb-true, same_planes-true, are_below-true, planes_bits-le)

-- the entry of so many bits
end_at : (n left bits p i e : ℕ) → p ≡ 2 ^ left → test_ends left ≡ true → n < 3 → bits < p → i ≡ n * p + bits → i / p ≡ n → i % p ≡ bits → i < 3 * p → e ≡ end_entry n p bits → test_end n left bits e ≡ true
end_at n left bits p i e power tests in_plane small place prefix low below is =
    let here = each_below-true (λ j. test_end (j / 2 ^ left) left (j % 2 ^ left) (end_entry (j / 2 ^ left) (2 ^ left) (j % 2 ^ left))) (3 * 2 ^ left) i tests (omega arith) in search rules

pub last_of_entry : (n left bits e : ℕ) → n < 3 → 0 < left → left < 8 → bits < 2 ^ left → e ≡ end_entry n (2 ^ left) bits
    → AreAtEnd n left bits (entry_count e) (lanes_apart (entry_digits e)) (min (entry_len e) left) (entry_reach e)
last_of_entry n left bits e in_plane some few small is =
    let p = 2 ^ left in
    let next : suc (left - 1) ≡ left = omega arith in
    let tests : test_ends left ≡ true = ap test_ends (sym next) ∙ each_below-true (λ k. test_ends (suc k)) 7 (left - 1) test_all_ends (omega arith) in
    let below : n * p + bits < p * 3 = mul-add-lt n p bits 3 (omega arith) small in
    last_tested n left bits (lanes_apart (entry_digits e)) (min (entry_len e) left) (entry_count e) (entry_reach e)
    (end_at n left bits p (n * p + bits) e refl tests in_plane small refl (shr_high n left bits small) (mod_low n left bits small) (omega arith) is)

-- ---- one plane

abbrev test_one : ℕ → ℕ → Bool
test_one digits e = same_planes (low_planes 1 (lanes_in 4 e)) (field 4 digits ∷ []) && are_below 1 (lanes_in 4 e)

test_all_ones : each_below (λ i. test_one i (bit_and (i * 0x2000_4000_8001) 0x0001_0001_0001_0001)) 16 ≡ true
unfolding low_planes lanes_in
test_all_ones = refl

pub one_of_digits : (digits : ℕ) → digits < 16 → (low_planes 1 (lanes_in 4 (bit_and (digits * 0x2000_4000_8001) 0x0001_0001_0001_0001)) ≡ field 4 digits ∷ [])
    × AreBelow 1 (lanes_in 4 (bit_and (digits * 0x2000_4000_8001) 0x0001_0001_0001_0001))
one_of_digits digits four =
    let test = each_below-true (λ i. test_one i (bit_and (i * 0x2000_4000_8001) 0x0001_0001_0001_0001)) 16 digits test_all_ones four in
    search (rules, and_parts, same_planes-true, are_below-true)
