use Rattle.std.proofs.Common.{rules, ◌≡◌, ℕ, ◌+◌, ◌-◌, ◌/◌, ◌%◌, ◌^◌, ◌≤◌, false, ◌++◌, replicate, arith}
use Rattle.std.{proofs.lemmas.Nat.{mod_below, pow_pos}, proofs.Math.Nat.{div-eq_of_lt}}
use Rattle.zf_spec.{specs.Numbers.{field}, proofs.Fields.{field-add, field-mod, field-zero}}
use Rattle.zf_planes.{proofs.Digits.{masked}, proofs.Peeking.{window_prefix}}
use Rattle.zf_planes.proofs.cursor.Cursor.read_word.Goals as goal

-- the lowest bits as a word
low_field : (v n : ℕ) → n ≤ 64 → field 64 (v % 2 ^ n) ≡ field n v ++ replicate (64 - n) false
low_field v n small =
    let parts : 64 ≡ n + (64 - n) = omega arith in
    let low = v % 2 ^ n in
    let none : low / 2 ^ n ≡ 0 = div-eq_of_lt (mod_below v (2 ^ n) (pow_pos n)) in
    cc (field-add n (64 - n) low, field-mod n v, field-zero (64 - n))

-- ---- there are fewer

-- ---- they are read

pub returns-clause-digits : goal.returns-clause-digits
returns-clause-digits c = search (rules, masked, low_field, window_prefix)
