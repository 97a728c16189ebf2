-- The bits of a byte, of those of words.
use Rattle.std.proofs.Common.{◌≡◌, ap, ◌∙◌, ℕ, ◌+◌, ◌<◌, ◌≤◌, lit<, Bool, List, length, take, drop, length-drop, arith}
use Rattle.std.proofs.Math.Nat.{pow-le-pow_right}
use Rattle.std.proofs.lemmas.List.{length-take, length-take-le}
use Rattle.zf_spec.{specs.Numbers.{field, number}, proofs.Fields.{field-number, number-lt}}

-- the number of at most 8 bits is a byte, and has just them
pub low_small : (n : ℕ) (bits : List Bool) → n ≤ 8 → number (take n bits) < 256
low_small n bits narrow =
    let wide : length (take n bits) ≤ 8 = omega (arith, length-take n bits, narrow) in
    omega (arith, number-lt (take n bits), pow-le-pow_right {n = 2} (lit< tt) wide)

pub low_field : (n v : ℕ) (code : List Bool) (m : ℕ) → m + n ≤ length code → v ≡ number (take n (drop m code)) → field n v ≡ take n (drop m code)
low_field n v code m held is =
    let long : length (take n (drop m code)) ≡ n = length-take-le n (drop m code) (omega (arith, length-drop m code, held)) in
    ap (field n) is ∙ field-number n (take n (drop m code)) long
