-- Planes of four digits in which the first rank alone has ones.
use Rattle.std.proofs.Common.{rules, ◌≡◌, ℕ, zero, suc, ◌+◌, ◌-◌, ◌*◌, ◌/◌, ◌^◌, ◌<◌, ◌≤◌, max, Bool, true, false, eqb, List, [], ◌∷◌, ◌++◌, map, get_or, refl, ap, ◌∙◌, arith, pow-suc}
use Rattle.std.{proofs.lemmas.Bool.{eqb-true}, proofs.lemmas.Nat.{le_or_l, le_or_r, leading_length}}
use Rattle.std.{specs.Int.{w64, leading_zeros}, proofs.Math.Nat.{div-eq_of_lt}, proofs.Math.Pow.{pow_mono}}
use Rattle.std.specs.Int.RustNames.{bit_or}
use lib.Bits.{bit_and}
use Rattle.zf_spec.{specs.Numbers.{field, is_odd, digit_value}, specs.Grid.{count_from, upto}}
use Rattle.zf_spec.{specs.Planes.{code_from, reach_of_all}, proofs.Fields.{field-add, is_odd-digit_value}}
use Rattle.zf_planes.specs.Spread.{top_digit, top_planes, spread, lone_planes, lone_code}
use Rattle.zf_planes.{specs.declared.entries.TheConstants.{SPREAD}, proofs.Strings.{code_from-append}}
use Rattle.zf_planes.proofs.Tables.{each_below, each_below-true}
use Rattle.zf_planes.proofs.TopPlanes.{map-from, top_planes-split, below}
use Rattle.zf_bits.proofs.Fields.{digit_value_le}

-- ---- their code

lone_from_one : (ds : List Bool) → (code_from 1 (lone_planes ds) ≡ lone_code ds) × (max 1 (reach_of_all (lone_planes ds)) ≡ 1)
lone_from_one [] = (refl, refl)
lone_from_one (true ∷ ds) = let rest = lone_from_one ds in (ap (λ (bs : List Bool). true ∷ false ∷ bs) rest.0, omega (arith, rest.1))
lone_from_one (false ∷ ds) = let rest = lone_from_one ds in (ap (λ (bs : List Bool). false ∷ false ∷ bs) rest.0, omega (arith, rest.1))

pub lone_from_none : (ds : List Bool) → get_or ds 0 false ≡ true → (code_from 0 (lone_planes ds) ≡ true ∷ lone_code ds) × (max 0 (reach_of_all (lone_planes ds)) ≡ 1)
lone_from_none [] first = cc
lone_from_none (false ∷ ds) first = cc
lone_from_none (true ∷ ds) first = let rest = lone_from_one ds in (ap (λ (bs : List Bool). true ∷ true ∷ false ∷ bs) rest.0, omega (arith, rest.1))

-- ---- as numbers

-- the code of m of k planes, as the number of their digits two apart
pub lone_field : (m k : ℕ) (f : ℕ → Bool) → m ≤ k → field (2 * m) (spread 4 k f) ≡ lone_code (map f (upto m))
unfolding spread
lone_field zero k f within = refl
lone_field (suc m) zero f within = absurd (omega arith)
lone_field (suc m) (suc k) f within =
    let next : ℕ → Bool = λ i. f (suc i) in
    let r = spread 4 k next in
    let v = digit_value (f 0) + 4 * r in
    let low = digit_value_le (f 0) in
    let two : 2 * suc m ≡ 2 + 2 * m = omega arith in
    let twice : v ≡ digit_value (f 0) + 2 * (2 * r) = omega arith in
    let half : v / 2 ≡ digit_value false + 2 * r = omega arith in
    let first : is_odd v ≡ f 0 = ap is_odd twice ∙ is_odd-digit_value (f 0) (2 * r) in
    let second : is_odd (v / 2) ≡ false = ap is_odd half ∙ is_odd-digit_value false r in
    let rest : v / 4 ≡ r = omega arith in
    cc (
      field-add 2 (2 * m) v,
      lone_field m k next (omega arith),
      map-from f next 1 m false (λ i here. let place : 1 + i ≡ suc i = omega arith in ap f place),
    )

-- and behind the group bit of the first one
pub lone_bits : (m k : ℕ) (f : ℕ → Bool) → m ≤ k → field (1 + 2 * m) (1 + 2 * spread 4 k f) ≡ true ∷ lone_code (map f (upto m))
lone_bits m k f within =
    let v = 1 + 2 * spread 4 k f in
    let half : v / 2 ≡ spread 4 k f = omega arith in
    search (rules, field-add, lone_field)

-- ---- digits two apart, by the table of those four apart

abbrev pub pushed : ℕ → ℕ
pushed e =
    let bytes = bit_and (bit_or e (e / 4)) 0x0505_0505 in
    let halves = bit_and (bit_or bytes (bytes / 16)) 0x0055_0055 in
    bit_and (bit_or halves (halves / 256)) 0x5555

test_pushed : each_below (λ b. eqb (pushed (get_or SPREAD b 0)) (spread 4 8 (λ i. is_odd (b / 2 ^ (7 - i))))) 256 ≡ true
unfolding spread
test_pushed = refl

pub pushed_entry : (b e : ℕ) → b < 256 → e ≡ get_or SPREAD b 0 → pushed e ≡ spread 4 8 (λ i. is_odd (b / 2 ^ (7 - i)))
pushed_entry b e eight is = ap pushed is ∙ eqb-true _ _ (each_below-true (λ b. eqb (pushed (get_or SPREAD b 0)) (spread 4 8 (λ i. is_odd (b / 2 ^ (7 - i))))) 256 b test_pushed eight)

pub pairs-lt : (k : ℕ) (f : ℕ → Bool) → 3 * spread 4 k f < 4 ^ k
unfolding spread
pairs-lt zero f = omega arith
pairs-lt (suc k) f = omega (arith, digit_value_le (f 0), pairs-lt k (λ i. f (suc i)), pow-suc 4 k)

-- ---- how many there are

-- a word below a power has no digit above it
no_top_digit : (word m i : ℕ) → word < 2 ^ (64 - m) → i < m → m ≤ 64 → top_digit word i ≡ false
no_top_digit word m i small here within = search (rules, pow_mono, div-eq_of_lt)

pub lone_top : (m a b c d : ℕ) → m ≤ leading_zeros w64 (bit_or (bit_or b c) d) → m ≤ 64 → bit_or (bit_or b c) d < 2 ^ 64 → top_planes m (a ∷ b ∷ c ∷ d ∷ []) ≡ lone_planes (map (top_digit a) (upto m))
unfolding top_planes
lone_top m a b c d fewer within word =
    let others = bit_or (bit_or b c) d in
    let low = leading_length 64 others word in
    let bound : 2 ^ low.0 ≤ 2 ^ (64 - m) = pow_mono {i = low.0} {j = 64 - m} (omega (arith, low.1)) in
    let b_small : b < 2 ^ (64 - m) = omega (arith, le_or_l (bit_or b c) d, le_or_l b c) in
    let c_small : c < 2 ^ (64 - m) = omega (arith, le_or_l (bit_or b c) d, le_or_r b c) in
    let d_small : d < 2 ^ (64 - m) = omega (arith, le_or_r (bit_or b c) d) in
    each m 0 (λ i here. let less : i < m = omega arith in (no_top_digit b m i b_small less within, (no_top_digit c m i c_small less within, no_top_digit d m i d_small less within)))
  where
    each : (n k : ℕ) → ((i : ℕ) → i < k + n → (top_digit b i ≡ false) × ((top_digit c i ≡ false) × (top_digit d i ≡ false)))
        → map (λ i. top_digit a i ∷ top_digit b i ∷ top_digit c i ∷ top_digit d i ∷ []) (count_from k n) ≡ lone_planes (map (top_digit a) (count_from k n))
    each zero k none = refl
    each (suc n) k none =
        let here = none k (omega arith) in
        cc (here.0, here.1.0, here.1.1, each n (suc k) (λ i less. none i (omega arith)))

-- planes that begin with such ones
pub lone_first : (planes m : ℕ) (words : List ℕ) → 0 < m → m ≤ planes → planes ≤ 64 → top_digit (get_or words 0 0) 0 ≡ true → top_planes m words ≡ lone_planes (map (top_digit (get_or words 0 0)) (upto m))
    → code_from 0 (top_planes planes words) ≡ (true ∷ lone_code (map (top_digit (get_or words 0 0)) (upto m))) ++ code_from 1 (top_planes (planes - m) (map (below m) words))
lone_first planes zero words some within most first lone = absurd (omega arith)
lone_first planes (suc m) words some within most first lone =
    let ds = map (top_digit (get_or words 0 0)) (upto (suc m)) in
    let rest = top_planes (planes - suc m) (map (below (suc m)) words) in
    let code = lone_from_none ds first in
    cc (
      top_planes-split planes (suc m) words within most,
      code_from-append 0 (lone_planes ds) rest,
      code.0,
      code.1,
    )
