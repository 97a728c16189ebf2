-- Planes in one word by the bits of their code, with a table of tails.
use Rattle.std.proofs.Common.{rules, ◌≡◌, ℕ, suc, ◌+◌, ◌-◌, ◌*◌, ◌/◌, ◌%◌, ◌^◌, ◌<◌, ◌≤◌, ⊎_elim, min, Bool, true, false, ◌&&◌, cond, ltb, eqb, List, ◌∷◌, ◌++◌, length, drop, get_or, replicate, refl, sym, ap, append_assoc, ◌∙◌, arith, lit<, take_at, drop_at, pow_pos}
use Rattle.std.{specs.Int.Bits.{bit_or}, proofs.Math.Nat.{pow-le-pow_right, div-eq_of_lt}}
use Rattle.std.proofs.lemmas.Bool.{cases_lt, and_parts, ltb-true, le-ltb, lt-ltb, eqb-true}
use Rattle.zf_spec.{specs.Numbers.{field, is_odd}, specs.Planes.{has_one, reach, tail, plane_code, code_from_run}}
use Rattle.zf_spec.{proofs.Fields.{length-field, field-add, field-mod, field-zero}, proofs.Full.{tail-some}}
use Rattle.zf_spec.proofs.Reach.{reach-le}
use Rattle.zf_bits.proofs.Fields as wide
use Rattle.zf_bits.proofs.Fields.{field_more}
use Rattle.zf_planes.{specs.WordPlanes.{IsReadAs, IsTail, IsBegun, IsTailEntry}, specs.Doubled.{doubled}, specs.declared.entries.TheConstants.{TAILS}}
use Rattle.zf_planes.proofs.Tables.{same_digits, same_digits-true, each_below, each_below-true}
use Rattle.zf_planes.{proofs.Placing.{reach_behind}, proofs.ShortPlanes.{tail_same, reach_same, reach_behind_all}, proofs.Gathering.{bits_behind, small_behind}}
use Rattle.zf_planes.proofs.Doubled.{has_one-behind, has_one-field, run_doubled, plane_whole, plane_without}

-- ---- the table, by computation

-- an entry has the tail of so many digits that these bits follow the group bit of
abbrev test_tail : ℕ → ℕ → ℕ → ℕ → ℕ → Bool
test_tail most bits digits l a =
    same_digits (tail (field most digits)) (field l (2 * bits + 1))
    && (ltb 0 digits && (ltb digits (2 ^ most) && (ltb l 10 && eqb a (reach (field most digits)))))

-- or it has digits that a run begins with, fewer than all, whose doubled digits these bits begin with
abbrev test_begun : ℕ → ℕ → ℕ → ℕ → ℕ → Bool
test_begun most bits digits l a =
    same_digits (doubled (field a digits)) (field (l - 96) bits)
    && (ltb digits (2 ^ a) && (ltb a most && (ltb 95 l && ltb l 105)))

abbrev test_fields : ℕ → ℕ → ℕ → ℕ → ℕ → Bool
test_fields most bits digits l a = cond (ltb 64 l) (test_begun most bits digits l a) (test_tail most bits digits l a) && (ltb 0 l && (ltb l 105 && ltb a 16))

abbrev test_entry : ℕ → ℕ → ℕ → Bool
test_entry most bits e = test_fields most bits (e % 256) (e / 4096) (e / 256 % 16)

test_tails : each_below (λ i. test_entry (i / 256 + 1) (i % 256) (get_or TAILS i 0)) 2304 ≡ true
test_tails = refl

fields_tested : (most bits digits l a : ℕ) → test_fields most bits digits l a ≡ true → IsTailEntry most bits digits l a
fields_tested most bits digits l a test =
    let parts = and_parts (cond (ltb 64 l) (test_begun most bits digits l a) (test_tail most bits digits l a)) (ltb 0 l && (ltb l 105 && ltb a 16)) test in
    let bounds = and_parts (ltb 0 l) (ltb l 105 && ltb a 16) parts.1 in
    let more = and_parts (ltb l 105) (ltb a 16) bounds.1 in
    record {
      some = ltb-true 0 l bounds.0;
      few = ltb-true l 105 more.0;
      within = ltb-true a 16 more.1;
      tail = λ known.
          let holds : test_tail most bits digits l a ≡ true = rw (le-ltb 64 l known) at parts.0 in
          search (rules, ltb-true, same_digits, and_parts, same_digits-true, eqb-true);
      begun = λ many.
          let holds : test_begun most bits digits l a ≡ true = rw (lt-ltb 64 l many) at parts.0 in
          search (rules, ltb-true, same_digits, and_parts, same_digits-true, eqb-true);
    }

entry_to_9 : (most bits e : ℕ) → 0 < most → most ≤ 9 → bits < 256 → e ≡ get_or TAILS (256 * (most - 1) + bits) 0 → IsTailEntry most bits (e % 256) (e / 4096) (e / 256 % 16)
entry_to_9 most bits e some nine eight is =
    let i = 256 * (most - 1) + bits in
    let prefix : i / 256 + 1 ≡ most = omega arith in
    let low : i % 256 ≡ bits = omega arith in
    let whole : test_entry most bits e ≡ true =
    cc (
    each_below-true (λ j. test_entry (j / 256 + 1) (j % 256) (get_or TAILS j 0)) 2304 i test_tails (omega arith)) in
    fields_tested most bits (e % 256) (e / 4096) (e / 256 % 16) whole

pub tail_of_entry : (most bits e : ℕ) → 0 < most → bits < 256 → e ≡ get_or TAILS (256 * (min most 9 - 1) + bits) 0 → IsTailEntry most bits (e % 256) (e / 4096) (e / 256 % 16)
tail_of_entry most bits e some eight is = ⊎_elim
    (λ (few : most < 9). let all : min most 9 ≡ most = omega arith in entry_to_9 most bits e some (omega arith) eight (rw all at is))
    (λ (nine : 9 ≤ most).
    let all : min most 9 ≡ 9 = omega arith in
    let entry = entry_to_9 9 bits e (omega arith) (omega arith) eight (rw all at is) in
    record {
      some = entry.some;
      few = entry.few;
      within = entry.within;
      begun = λ more. let found = entry.begun more in record { code = found.code; small = found.small; fewer = omega (arith, found.fewer); taken = found.taken };
      tail = λ known.
          let found = entry.tail known in
          let digits = e % 256 in
          let low : digits < 256 = omega arith in
          record {
            code = tail_same 8 most digits nine low ∙ found.code;
            some = found.some;
            small = omega (arith, pow-le-pow_right {n = 2} (lit< tt) nine);
            len = found.len;
            above = found.above ∙ reach_same 8 9 digits (omega arith) low ∙ sym (reach_same 8 most digits nine low);
          };
    })
    (cases_lt most 9)

-- ---- a plane of its first digits and a tail

code_of_parts : (n : ℕ) (prefix rest : List Bool) → length prefix ≡ n → plane_code n (prefix ++ rest) ≡ prefix ++ tail rest
code_of_parts n prefix rest long = ap (λ (ds : List Bool). ds ++ tail (drop n (prefix ++ rest))) (take_at prefix rest n long) ∙ ap (λ (ds : List Bool). prefix ++ tail ds) (drop_at prefix rest n long)

pub read_with : (n size bits t len a : ℕ) → n < size → size ≤ 64 → bits / 2 ^ n % 2 ≡ 1 → IsTail (size - n) (bits / 2 ^ n / 2 % 256) t len a → IsReadAs n size bits (bit_or (bits % 2 ^ n) (t * 2 ^ n % 2 ^ 64)) (n + len) (n + a)
read_with n size bits t len a within narrow odd found =
    let next = bits / 2 ^ n in
    let v = bit_or (bits % 2 ^ n) (t * 2 ^ n % 2 ^ 64) in
    let parts : n + (size - n) ≡ size = omega arith in
    let prefix_small : bits % 2 ^ n < 2 ^ n = omega (arith, pow_pos n) in
    let digits : field size v ≡ field n bits ++ field (size - n) t =
    ap (λ k. field k v) (sym parts) ∙ bits_behind n (size - n) (bits % 2 ^ n) t (omega arith) prefix_small ∙ ap (λ (bs : List Bool). bs ++ field (size - n) t) (field-mod n bits) in
    let nine : 9 ≡ len + (9 - len) = omega (arith, found.len) in
    let low : 2 * (next / 2 % 256) + 1 ≡ next % 2 ^ 9 = omega arith in
    let code : tail (field (size - n) t) ≡ field len next =
    found.code ∙ ap (field len) (low ∙ ap (λ k. next % 2 ^ k) nine) ∙ wide.field-mod len (9 - len) next in
    let one = has_one-field (size - n) t found.some found.small in search (rules, code_of_parts, length-field, field-add, small_behind, reach_behind_all)

-- where one look at the table tells how the run begins, and another the tail of the digits behind
module _ (n size bits e len k f more a : ℕ) (within : n < size) (narrow : size ≤ 64) (odd : bits / 2 ^ n % 2 ≡ 1) where
  abbrev next : ℕ
  next = bits / 2 ^ n

  abbrev c : ℕ
  c = len - 96

  abbrev m : ℕ
  m = size - (n + k)

  abbrev prefix : List Bool
  prefix = field k e

  abbrev back : List Bool
  back = field m f

  module _ (begun : IsBegun (size - n) (next / 2 % 256) e len k) (some : 0 < more) (found : IsTail m (next / 2 / 2 ^ c % 256) f more a) where
    one : has_one back ≡ true
    one = has_one-field m f found.some found.small

    run_behind : code_from_run back ≡ field (more - 1) (next / 2 / 2 ^ c)
    run_behind =
        let w = next / 2 / 2 ^ c in
        let b = w % 256 in
        let l = more - 1 in
        let long : more ≡ suc l = omega arith in
        let eight : 8 ≡ l + (8 - l) = omega (arith, found.len) in
        let half : (2 * b + 1) / 2 ≡ b = omega arith in
        ap (drop 1) (sym (tail-some back one) ∙ found.code ∙ ap (λ j. field j (2 * b + 1)) long) ∙ ap (field l) half ∙ ap (λ j. field l (w % 2 ^ j)) eight ∙ wide.field-mod l (8 - l) w

    run : tail (prefix ++ back) ≡ field (c + more) next
    run =
        let l = more - 1 in
        let long : suc (c + l) ≡ c + more = omega arith in
        let eight : 8 ≡ c + (8 - c) = omega (arith, begun.taken) in
        let begins : doubled prefix ≡ field c (next / 2) = begun.code ∙ ap (λ j. field c (next / 2 % 2 ^ j)) eight ∙ wide.field-mod c (8 - c) (next / 2) in
        let whole : code_from_run (prefix ++ back) ≡ field (c + l) (next / 2) = cc (run_doubled prefix back one, begins, run_behind, field-add c l (next / 2)) in
        let first : is_odd next ≡ true = ap (λ r. eqb r 1) odd in
        tail-some (prefix ++ back) (has_one-behind prefix back one) ∙ ap (λ (bs : List Bool). true ∷ bs) whole ∙ ap (λ (d : Bool). d ∷ field (c + l) (next / 2)) (sym first) ∙ ap (λ j. field j next) long

    pub read_two : IsReadAs n size bits (bit_or (bit_or (bits % 2 ^ n) (e * 2 ^ n % 2 ^ 64)) (f * 2 ^ (n + k) % 2 ^ 64)) (n + c + more) (n + k + a)
    read_two =
        let v = bit_or (bits % 2 ^ n) (e * 2 ^ n % 2 ^ 64) in
        let whole = bit_or v (f * 2 ^ (n + k) % 2 ^ 64) in
        let parts : n + k + m ≡ size = omega (arith, begun.fewer) in
        let first_small : bits % 2 ^ n < 2 ^ n = omega (arith, pow_pos n) in
        let v_small : v < 2 ^ (n + k) = small_behind n k (bits % 2 ^ n) e first_small begun.small in
        let first : field (n + k) v ≡ field n bits ++ prefix =
        bits_behind n k (bits % 2 ^ n) e (omega (arith, begun.fewer)) first_small ∙ ap (λ (bs : List Bool). bs ++ prefix) (field-mod n bits) in
        let digits : field size whole ≡ field n bits ++ (prefix ++ back) =
        ap (λ j. field j whole) (sym parts) ∙ bits_behind (n + k) m v f (omega arith) v_small ∙ ap (λ (bs : List Bool). bs ++ back) first ∙ append_assoc (field n bits) prefix back in
        let place : n + (c + more) ≡ n + c + more = omega arith in
        record {
          code = ap (plane_code n) digits ∙ code_of_parts n (field n bits) (prefix ++ back) (length-field n bits) ∙ ap (λ (bs : List Bool). field n bits ++ bs) run ∙ sym (field-add n (c + more) bits) ∙ ap (λ j. field j bits) place;
          small = rw (← parts) (small_behind (n + k) m v f v_small found.small);
          reached =
              let far : reach (field size whole) ≡ n + (k + a) =
              ap reach digits ∙ reach_behind_all (field n bits) (prefix ++ back) (has_one-behind prefix back one) ∙ cc (reach_behind_all prefix back one, length-field n bits, length-field k e, found.above) in
              omega (arith, far);
        }

-- no one follows
pub read_without : (n size bits : ℕ) → n < size → bits / 2 ^ n % 2 ≡ 0 → IsReadAs n size bits (bits % 2 ^ n) (n + 1) n
read_without n size bits within even =
    let v = bits % 2 ^ n in
    let small : v < 2 ^ n = omega (arith, pow_pos n) in
    let none : v / 2 ^ n ≡ 0 = div-eq_of_lt small in
    let parts : n + (size - n) ≡ size = omega arith in
    let digits : field size v ≡ field n v ++ replicate (size - n) false =
    ap (λ k. field k v) (sym parts) ∙ field-add n (size - n) v ∙ ap (λ u. field n v ++ field (size - n) u) none ∙ ap (λ (bs : List Bool). field n v ++ bs) (field-zero (size - n)) in
    search (rules, plane_without, field_more, field-mod, pow-le-pow_right, reach_behind, reach-le, length-field)

-- all ranks have had a one
pub read_all : (size bits : ℕ) → IsReadAs size size bits (bits % 2 ^ size) size size
read_all size bits = search (rules, plane_whole, field-mod, reach-le, length-field)
