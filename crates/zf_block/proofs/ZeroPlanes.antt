-- Planes of zeros: what begins with zeros is read as such, a budget keeps them as they are, and they stand for a block of zeros.
use Rattle.std.proofs.lemmas.List.{get_or-replicate}
use Rattle.zf_spec.proofs.PlaneDigits.{get_or-planes_of}
use Rattle.std.proofs.Common.{rules, ◌≡◌, refl, sym, ap, ◌∙◌, ℕ, zero, suc, ◌+◌, ◌-◌, ◌^◌, ◌≤◌, min, max, Bool, false, ℤ, pos, List, [], ◌∷◌, map, length, take, drop, get_or, ext_get_or, replicate, arith}
use Rattle.std.proofs.lemmas.List.{append-nil, length-replicate, take-replicate, drop-replicate, drop-take, take_all}
use Rattle.std.{proofs.Math.Nat.{one-le-pow}, specs.Int.{Width}}
use mir.Val.{bits}
use Rattle.zf_spec.specs.Planes.{plane, planes_of, reach, has_one, needed_planes, plane_code, code}
use Rattle.zf_spec.specs.ReadPlanes.{first_bits, plane_in, planes_in_from, planes_in}
use Rattle.zf_spec.specs.Codes.{count_bits, coefficients_of, planes, rev_of_planes}
use Rattle.zf_spec.proofs.Reach.{has_one-zeros, reach_none, needed_planes-is}
use Rattle.zf_spec.{proofs.PlaneDigits.{get_or-blank, length-planes_of}, specs.Kept.{kept_plane, kept_planes}}
use Rattle.zf_spec.{proofs.Fields.{field-zero, number-zeros}, specs.Numbers.{field, number, value_of}}
use Rattle.zf_spec.{proofs.Padding.{length-pad, get_or-pad}, specs.Grid.{IsDimension}}
use Rattle.zf_spec.{proofs.KeptCases.{kept_tail-zeros}, specs.Padding.{source_place, pad}}
use Rattle.zf_coef.specs.HeldDigits.{digits_in, unranked_values}
use Rattle.zf_coef.proofs.FirstAlone.{value_of_none, unranked_first}
use Rattle.zf_base.proofs.Values.{alike_at}
use Rattle.zf_planes.{proofs.Runs.{tail_none}, proofs.Zeros.{take_both, zero_code}}
use Rattle.zf_block.specs.ReadBlocks.{rev_planes, rev_len, prec_planes, prec_len}
use Rattle.zf_block.{proofs.Zeros.{alike_fewer}, proofs.Kept.{coefficients_of-zeros}}
use Rattle.zf_block.proofs.Digits.{planes_of-ranked, ranked-unranked, coefficients_of-planes_of}

-- so many planes of zeros
abbrev pub zero_planes : ℕ → ℕ → List (List Bool)
zero_planes p size = replicate p (replicate size false)

pub size_some : (d : ℕ) → 1 ≤ 4 ^ d
size_some d = one-le-pow d 4 (omega arith)

-- ---- their code

pub code-zero_planes : (p size : ℕ) → 1 ≤ size → code (zero_planes p size) ≡ replicate p false
code-zero_planes p size some = simp append-nil at (zero_code p size [] some)

pub needed-zero_planes : (p size : ℕ) → needed_planes (zero_planes p size) ≡ 0
needed-zero_planes p size = needed_planes-is (zero_planes p size) ∙ ap reach (ones p) ∙ reach_none (replicate p false) (has_one-zeros p)
  where
    ones : (p : ℕ) → map has_one (zero_planes p size) ≡ replicate p false
    ones zero = refl
    ones (suc p) = ap (λ b. b ∷ map has_one (zero_planes p size)) (has_one-zeros size) ∙ ap (λ bs. false ∷ bs) (ones p)

-- the reversible one is a count of one plane less one, and its bit
pub rev-zero_planes : (w : Width) (p size : ℕ) → 1 ≤ size → 1 ≤ p → rev_of_planes w (zero_planes p size) ≡ replicate (count_bits w + 1) false
unfolding rev_of_planes
rev-zero_planes w p size some many = search (rules, needed-zero_planes, take-replicate, code-zero_planes, some, field-zero)

-- and zeros that are cut or filled with zeros are zeros
pub first_bits-zeros : (n m : ℕ) → first_bits n (replicate m false) ≡ replicate n false
first_bits-zeros zero m = refl
first_bits-zeros (suc n) zero = ap (λ bs. false ∷ bs) (first_bits-zeros n 0)
first_bits-zeros (suc n) (suc m) = ap (λ bs. false ∷ bs) (first_bits-zeros n m)

-- ---- what begins with zeros is read as such

first_zero : (p size : ℕ) (s : List Bool) → 1 ≤ size → plane_in size 0 s ≡ replicate size false
    → planes_in_from (suc p) size 0 s ≡ replicate size false ∷ planes_in_from p size 0 (drop 1 s)
first_zero p size s some is =
    let blank = replicate size false in search (rules, blank, reach_none, has_one-zeros, tail_none, length-replicate)

-- where the first p bits are zeros, as far as there are any
pub planes_in-zeros : (p size k : ℕ) (s : List Bool) → 1 ≤ size → take p s ≡ replicate k false → planes_in p size s ≡ zero_planes p size
planes_in-zeros zero size k s some zeros = refl
planes_in-zeros (suc p) size k [] some zeros =
    let all : size - 0 ≡ size = omega arith in
    let none : take p [] ≡ replicate 0 false = take_all p [] (omega arith) in
    cc (first_zero p size [] some (ap (λ n. replicate n false) all), planes_in-zeros p size 0 [] some none)
planes_in-zeros (suc p) size (suc k) (false ∷ s) some zeros =
    let all : size - 0 ≡ size = omega arith in
    let behind : take p s ≡ replicate k false = cc in
    cc (first_zero p size (false ∷ s) some (ap (λ n. replicate n false) all), planes_in-zeros p size k s some behind)
planes_in-zeros (suc p) size k (b ∷ s) some zeros = absurd cc

-- ---- what a budget keeps of them

kept_zero : (r size : ℕ) → kept_plane r 0 (replicate size false) ≡ replicate size false
kept_zero r size = search (rules, kept_tail-zeros, has_one-zeros, length-replicate)

pub kept-zero_planes : (r p size : ℕ) → kept_planes r (zero_planes p size) ≡ zero_planes p size
kept-zero_planes r zero size = refl
kept-zero_planes r (suc p) size =
    let blank = replicate size false in
    let low : max 0 (reach blank) ≡ 0 = omega (arith, reach_none blank (has_one-zeros size)) in
    cc (kept_zero r size, kept-zero_planes (r - length (plane_code 0 blank)) p size)

-- ---- the block that they stand for

-- zeros that are padded are zeros
pub pad-zeros : (es : List ℕ) (n : ℕ) → pad es (replicate n (pos 0)) ≡ replicate (4 ^ length es) (pos 0)
pad-zeros es n =
    let block = replicate n (pos 0) in
    let long = length-pad es block in
    ext_get_or (pos 0) (pad es block) (replicate (4 ^ length es) (pos 0)) (omega (arith, long, length-replicate (4 ^ length es) (pos 0)))
    (λ p below. get_or-pad es block p (omega (arith, long)) ∙ alike_at (pos 0) n (source_place es p) ∙ sym (alike_at (pos 0) (4 ^ length es) p))

-- a plane of digits that are all zero
pub plane-zeros : (n k size : ℕ) → plane k (digits_in n (replicate size 0)) ≡ replicate size false
plane-zeros n k zero = refl
plane-zeros n k (suc size) =
    let digit : get_or (field n 0) k false ≡ false = ap (λ ds. get_or ds k false) (field-zero n) ∙ get_or-blank n k in
    ap (λ b. b ∷ plane k (digits_in n (replicate size 0))) digit ∙ ap (λ bs. false ∷ bs) (plane-zeros n k size)

-- the planes of digits that are all zero
planes_of-zeros : (n size : ℕ) → planes_of n (digits_in n (replicate size 0)) ≡ zero_planes n size
planes_of-zeros n size =
    let digits = digits_in n (replicate size 0) in
    let long = length-planes_of n digits in
    ext_get_or [] (planes_of n digits) (zero_planes n size) (omega (arith, long, length-replicate n (replicate size false)))
    (search (rules, get_or-planes_of, plane-zeros, get_or-replicate))

-- zeros in a row, the first one apart
pub first_apart : {A : Type 0} (size : ℕ) (x : A) → 1 ≤ size → x ∷ replicate (size - 1) x ≡ replicate size x
first_apart size x some = let e : suc (size - 1) ≡ size = omega arith in ap (λ n. replicate n x) e

-- a block of which the first coefficient alone may be other than zero
module _ (w : Width) (d u : ℕ) (v : ℤ) (dims : IsDimension d) (is : value_of w (field (bits w) u) ≡ v) where
  abbrev digits : List ℕ
  digits = u ∷ replicate (4 ^ d - 1) 0

  abbrev block : List ℤ
  block = v ∷ replicate (4 ^ d - 1) (pos 0)

  long : length digits ≡ 4 ^ d
  long = omega (arith, one-le-pow d 4 (omega arith), length-replicate {A = ℕ} (4 ^ d - 1) 0)

  unranked : unranked_values w d (digits_in (bits w) digits) ≡ block
  unranked = cc (unranked_first w d u dims (one-le-pow d 4 (omega arith)))

  pub first_coefficients : coefficients_of w d (planes_of (bits w) (digits_in (bits w) digits)) ≡ block
  first_coefficients = sym (coefficients_of-planes_of w d (bits w) digits refl long) ∙ unranked

  pub planes-first : planes_of (bits w) (digits_in (bits w) digits) ≡ planes w d block
  planes-first = planes_of-ranked w d (bits w) block digits refl (cc (ranked-unranked w d digits long, unranked))

module _ (w : Width) (d : ℕ) (dims : IsDimension d) where
  blank : planes_of (bits w) (digits_in (bits w) (0 ∷ replicate (4 ^ d - 1) 0)) ≡ zero_planes (bits w) (4 ^ d)
  blank =
      ap (λ (us : List ℕ). planes_of (bits w) (digits_in (bits w) us)) (first_apart (4 ^ d) 0 (one-le-pow d 4 (omega arith)))
      ∙ planes_of-zeros (bits w) (4 ^ d)

  -- no planes stand for zeros, nor do planes of zeros stand for anything else
  pub zero_coefficients : (n : ℕ) → coefficients_of w d (zero_planes n (4 ^ d)) ≡ pos 0 ∷ replicate (4 ^ d - 1) (pos 0)
  zero_coefficients n =
      let fewer = coefficients_of-zeros w d [] n (4 ^ d) in
      let all = coefficients_of-zeros w d [] (bits w) (4 ^ d) in
      cc (fewer, all, blank, first_coefficients w d 0 (pos 0) dims (value_of_none w (bits w)))

  -- and zeros have these planes
  pub planes-zeros : planes w d (pos 0 ∷ replicate (4 ^ d - 1) (pos 0)) ≡ zero_planes (bits w) (4 ^ d)
  planes-zeros = sym (planes-first w d 0 (pos 0) dims (value_of_none w (bits w))) ∙ blank

-- ---- the codes of a block of zeros, where bits begin with one

zeros_behind : (n m : ℕ) (s : List Bool) → take (n + m) s ≡ replicate (n + m) false → take m (drop n s) ≡ replicate m false
zeros_behind n m s zeros = sym (drop-take n m s) ∙ ap (drop n) zeros ∙ drop-replicate n (n + m) false ∙ ap (λ k. replicate k false) (omega arith)

module _ (w : Width) (size : ℕ) (s : List Bool) (some : 1 ≤ size) where
  -- a count of one plane, and its bit
  module _ (zeros : take (count_bits w + 1) s ≡ replicate (count_bits w + 1) false) where
    pub rev_planes-zeros : rev_planes w size s ≡ zero_planes 1 size
    unfolding rev_planes
    rev_planes-zeros =
        let count : number (take (count_bits w) s) ≡ 0 = ap number (alike_fewer (count_bits w) (count_bits w + 1) false s (omega arith) zeros) ∙ number-zeros (count_bits w) in
        cc (planes_in-zeros 1 size 1 (drop (count_bits w) s) some (zeros_behind (count_bits w) 1 s zeros))

    pub rev_len-zeros : rev_len w size s ≡ count_bits w + 1
    unfolding rev_len
    rev_len-zeros = ap (λ ps. count_bits w + length (code ps)) rev_planes-zeros ∙ ap (λ bs. count_bits w + length bs) (code-zero_planes 1 size some)

  -- as many bits as planes
  module _ (p k : ℕ) (top : k ≡ min p (bits w)) (zeros : take k s ≡ replicate k false) where
    pub prec_planes-zeros : prec_planes w p size s ≡ zero_planes k size
    unfolding prec_planes
    prec_planes-zeros = rw (← top) (planes_in-zeros k size k s some zeros)

    pub prec_len-zeros : prec_len w p size s ≡ k
    unfolding prec_len
    prec_len-zeros = ap (λ ps. length (code ps)) prec_planes-zeros ∙ ap length (code-zero_planes k size some) ∙ length-replicate k false

  -- the planes of a rate, as far as it reaches
  pub rate_planes-zeros : (n budget k : ℕ) → k ≡ min budget n → take k s ≡ replicate k false
      → kept_planes budget (planes_in n size (take budget s)) ≡ zero_planes n size
  rate_planes-zeros n budget k top zeros = search (rules, planes_in-zeros, some, take_both, kept-zero_planes)
