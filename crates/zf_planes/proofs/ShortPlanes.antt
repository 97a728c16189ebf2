-- Planes in one word by the codes of their tails, with a table of these.
use Rattle.std.proofs.Common.{rules, ◌≡◌, ℕ, zero, suc, ◌+◌, ◌-◌, ◌*◌, ◌/◌, ◌%◌, ◌^◌, ◌<◌, ◌≤◌, ⊎_elim, max, Bool, true, false, ◌&&◌, cond, ltb, eqb, List, [], ◌∷◌, ◌++◌, length, drop, get_or, replicate, refl, sym, ap, ◌∙◌, arith, pow_pos}
use Rattle.std.proofs.Math.Nat.{div-lt_iff_lt-mul, add-mul-div_right, add-mul-mod_self_right}
use Rattle.std.proofs.lemmas.Nat.{pow-add, one_shl}
use Rattle.std.proofs.lemmas.Bool.{cases_lt, and_parts, ltb-true, eqb-true}
use Rattle.zf_spec.{specs.Numbers.{field}, specs.Planes.{has_one, reach, tail, plane_code, code_from_run}}
use Rattle.zf_spec.proofs.Fields.{length-field, field-add, field-mod}
use Rattle.zf_spec.{proofs.Full.{tail-some}, proofs.PlaneCode.{tail-zeros}, proofs.Reach.{reach-le, reach_some}}
use Rattle.zf_planes.{specs.WordPlanes.{IsTailCode, IsShortCode}, specs.declared.entries.TheConstants.{TAIL_CODES}}
use Rattle.zf_planes.proofs.Tables.{same_digits, same_digits-true, each_below, each_below-true}
use Rattle.zf_planes.{proofs.Placing.{reach_behind}, proofs.Doubled.{has_one-behind, has_one-field, rest_small, has_one-zeros_behind, run_zeros_behind, zeros_behind, word_prefix, word_behind}}

-- ---- zeros behind the digits of a tail

tail_zeros_behind : (ds : List Bool) (k : ℕ) → tail (ds ++ replicate (suc k) false) ≡ tail (ds ++ false ∷ [])
tail_zeros_behind [] k = tail-zeros k
tail_zeros_behind (d ∷ ds) k = by (has_one (d ∷ ds)) refl
  where
    by : (t : Bool) → has_one (d ∷ ds) ≡ t → tail ((d ∷ ds) ++ replicate (suc k) false) ≡ tail ((d ∷ ds) ++ false ∷ [])
    by true one =
        tail-some ((d ∷ ds) ++ replicate (suc k) false) (has_one-zeros_behind (d ∷ ds) (suc k) ∙ one)
        ∙ ap (λ (bs : List Bool). true ∷ bs) (run_zeros_behind (d ∷ ds) k one)
        ∙ sym (tail-some ((d ∷ ds) ++ false ∷ []) (has_one-zeros_behind (d ∷ ds) 1 ∙ one))
    by false none =
        let P : (k : ℕ) → tail ((d ∷ ds) ++ replicate k false) ≡ false ∷ [] = λ k. ap (λ b. cond b (true ∷ code_from_run ((d ∷ ds) ++ replicate k false)) (false ∷ [])) (has_one-zeros_behind (d ∷ ds) k ∙ none) in
        P (suc k) ∙ sym (P 1)

pub tail_same : (a most digits : ℕ) → a < most → digits < 2 ^ a → tail (field most digits) ≡ tail (field (suc a) digits)
tail_same a most digits within small =
    let one = λ (m : ℕ) (more : a < m). ap tail (zeros_behind a m digits more small) ∙ tail_zeros_behind (field a digits) (m - suc a) in
    one most within ∙ sym (one (suc a) (omega arith))

pub reach_same : (a most digits : ℕ) → a < most → digits < 2 ^ a → reach (field most digits) ≡ reach (field a digits)
reach_same a most digits within small = ap reach (zeros_behind a most digits within small) ∙ reach_behind (field a digits) (suc (most - suc a))

-- ---- the table, by computation

abbrev test_tail_code : ℕ → ℕ → ℕ → ℕ → Bool
test_tail_code digits more l a =
    same_digits (tail (field (suc a) digits)) (field l (digits + more))
    && (same_digits (tail (field a digits)) (field (l - 2) (digits + more))
    && (ltb (digits + more) (2 ^ l) && (ltb 0 l && (cond (eqb a 0) true (ltb 2 l) && (ltb l 18 && (ltb digits (2 ^ a) && eqb (reach (field a digits)) a))))))

test_tail_codes : each_below (λ i. test_tail_code i (get_or TAIL_CODES i 0 % 65536) (get_or TAIL_CODES i 0 / 65536 % 256) (get_or TAIL_CODES i 0 / 16777216)) 256 ≡ true
test_tail_codes = refl

-- digits that a number of places holds reach no farther
least : (digits a most : ℕ) → digits < 2 ^ a → reach (field a digits) ≡ a → digits < 2 ^ most → a ≤ most
least digits a most small reached fits = ⊎_elim
    (λ (more : most < a). absurd (omega (arith, reach_same most a digits more fits, reach-le (field most digits), length-field most digits)))
    (λ (order : a ≤ most). order)
    (cases_lt most a)

tested : (digits more l a : ℕ) → test_tail_code digits more l a ≡ true → IsTailCode digits more l a
tested digits more l a test =
    let one = and_parts _ _ test in
    let two = and_parts _ _ one.1 in
    let three = and_parts _ _ two.1 in
    let four = and_parts _ _ three.1 in
    let five = and_parts _ _ four.1 in
    let six = and_parts _ _ five.1 in
    let seven = and_parts _ _ six.1 in
    let small : digits < 2 ^ a = ltb-true _ _ seven.0 in
    let reached : reach (field a digits) ≡ a = eqb-true _ _ seven.1 in
    record {
      whole = λ most wider. tail_same a most digits wider small ∙ same_digits-true _ _ one.0;
      last = same_digits-true _ _ two.0;
      bits = ltb-true _ _ three.0;
      some = ltb-true _ _ four.0;
      two = λ some. let no : eqb a 0 ≡ false = search (rules) in ltb-true 2 l (rw no at five.0);
      few = omega (arith, ltb-true l 18 six.0);
      within = small;
      reached = reached;
      least = λ most fits. least digits a most small reached fits;
    }

pub tail_code_of_entry : (digits : ℕ) → digits < 256 → let e = get_or TAIL_CODES digits 0 in IsTailCode digits (e % 65536) (e / 65536 % 256) (e / 16777216)
tail_code_of_entry digits eight =
    tested digits _ _ _ (each_below-true (λ i. test_tail_code i (get_or TAIL_CODES i 0 % 65536) (get_or TAIL_CODES i 0 / 65536 % 256) (get_or TAIL_CODES i 0 / 16777216)) 256 digits test_tail_codes eight)

-- ---- the code of a run is what follows the group bit of its tail

pub reaches_some : (digits a : ℕ) → 0 < digits → digits < 2 ^ a → 0 < a
reaches_some digits zero some small = absurd (omega arith)
reaches_some digits (suc a) some small = omega arith

pub run_of_tail : (most digits m k v : ℕ) → 0 < digits → digits < 2 ^ most → m ≡ suc k → k < 64 → tail (field most digits) ≡ field m v → field k (v / 2 % (1 * 2 ^ k % 2 ^ 64)) ≡ code_from_run (field most digits)
run_of_tail most digits m k v some small long fits same =
    ap (λ p. field k (v / 2 % p)) (one_shl k 64 fits)
    ∙ field-mod k (v / 2)
    ∙ sym (ap (drop 1) (sym (tail-some (field most digits) (has_one-field most digits some small)) ∙ same ∙ ap (λ j. field j v) long))

-- ---- a plane of its first digits and a tail

pub reach_behind_all : (xs ys : List Bool) → has_one ys ≡ true → reach (xs ++ ys) ≡ length xs + reach ys
reach_behind_all [] ys one = omega arith
reach_behind_all (x ∷ xs) ys one = reach_some x (xs ++ ys) (has_one-behind (x ∷ xs) ys one) ∙ omega (arith, reach_behind_all xs ys one)

-- a number whose part above n bits has k
below_of_high : (n k v : ℕ) → v / 2 ^ n < 2 ^ k → v < 2 ^ (n + k)
below_of_high n k v high = omega (arith, (div-lt_iff_lt-mul {k = 2 ^ n} {x = v} {y = 2 ^ k} (pow_pos n)).0 high, pow-add 2 n k)

-- the digits and so much more behind the first n
module _ (n digits more l a : ℕ) (entry : IsTailCode (digits / 2 ^ n) more l a) where
  abbrev rest : ℕ
  rest = digits / 2 ^ n

  abbrev bits : ℕ
  bits = digits + more * 2 ^ n

  in_parts : (size k : ℕ) → n ≤ size → tail (field (size - n) rest) ≡ field k (rest + more) → plane_code n (field size digits) ≡ field (n + k) bits
  in_parts size k order same =
      let low : field n bits ≡ field n digits = sym (field-mod n bits) ∙ ap (field n) (add-mul-mod_self_right digits more (2 ^ n)) ∙ field-mod n digits in
      let high : bits / 2 ^ n ≡ rest + more = add-mul-div_right digits more (pow_pos n) in
      cc (word_prefix size n digits order, word_behind size n digits order, same, field-add n k bits, low, high)

  -- as in a plane of no more ranks than its ones reach
  reached_here : max n (reach (field (n + a) digits)) ≡ n + a
  reached_here =
      let parts = ap reach (field-add n a digits) in
      ⊎_elim
      (λ (none : a < 1). omega (arith, none, reach-le (field (n + a) digits), length-field (n + a) digits))
      (λ (some : 1 ≤ a).
      let one : 0 < rest = ⊎_elim (λ (zero : rest < 1). absurd (omega (arith, some, entry.least 0 zero))) (λ (one : 1 ≤ rest). one) (cases_lt rest 1) in
      omega (arith, parts, reach_behind_all (field n digits) (field a rest) (has_one-field a rest one entry.within), length-field n digits, entry.reached))
      (cases_lt a 1)

  reached_in : (size : ℕ) → n + a ≤ size → max n (reach (field size digits)) ≡ n + a
  reached_in size order = ⊎_elim
      (λ (more : n + a < size). ap (max n) (reach_same (n + a) size digits more (below_of_high n a digits entry.within)) ∙ reached_here)
      (λ (all : size ≤ n + a). let same : size ≡ n + a = omega (arith, order, all) in rw same reached_here)
      (cases_lt (n + a) size)

  pub short_of_entry : n ≤ 32 → l ≤ 17 → IsShortCode n digits (n + l) bits (n + a)
  short_of_entry few many = record {
    whole = λ size before. let less : a < size - n = omega (arith, before) in in_parts size l (omega (arith, before)) (entry.whole (size - n) less);
    last = λ some.
        let here : n + a - n ≡ a = omega arith in
        let len : n + (l - 2) ≡ n + l - 2 = omega (arith, entry.two (omega (arith, some))) in
        in_parts (n + a) (l - 2) (omega arith) (ap (λ m. tail (field m rest)) here ∙ entry.last) ∙ ap (λ k. field k bits) len;
    small = below_of_high n l bits (rw (add-mul-div_right digits more (pow_pos n)) entry.bits);
    some = omega (arith, entry.some);
    two = λ some. omega (arith, entry.two (omega (arith, some)));
    len = omega (arith, few, many);
    order = omega arith;
    reached = reached_in;
    least = λ size order fits. omega (arith, order, entry.least (size - n) (rest_small size n digits order fits));
  }
