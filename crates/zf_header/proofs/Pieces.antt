-- Bits that end to end make up a list, and fields among them.
use Rattle.std.proofs.Common.{◌≡◌, ℕ, ◌+◌, ◌^◌, ◌<◌, ◌≤◌, Bool, List, ◌++◌, length, take, drop, sym, ap, ◌∙◌, length-drop, rules}
use Rattle.std.proofs.Math.Seq.{take-add}
use Rattle.std.proofs.lemmas.List.{take_at, drop_at, drop-drop, length-take-le}
use Rattle.zf_spec.{specs.Numbers.{field}, proofs.Fields.{length-field, field-number}}
use Rattle.zf_bits.proofs.Fields.{number-field_whole}
use Rattle.zf_header.specs.HeaderFields.{number_at}

-- two pieces, one behind the other, from a place on
pub take-add_at : (at n m : ℕ) (s : List Bool) → take n (drop at s) ++ take m (drop (at + n) s) ≡ take (n + m) (drop at s)
take-add_at at n m s = cc (drop-drop n at s, take-add n m (drop at s))

-- the field of the number that was read is the bits themselves
pub field-number_at_place : (at n : ℕ) (s : List Bool) → at + n ≤ length s → field n (number_at at n s) ≡ take n (drop at s)
unfolding number_at
field-number_at_place at n s within = search (rules, field-number, length-take-le, length-drop)

-- a field that stands at a place is read there
pub number_at_field : (s after : List Bool) (at n v : ℕ) → drop at s ≡ field n v ++ after → v < 2 ^ n → number_at at n s ≡ v
unfolding number_at
number_at_field s after at n v is small = search (rules, take_at, length-field, number-field_whole)

-- and behind it stands what follows
pub behind_piece : (s bits after : List Bool) (at n : ℕ) → drop at s ≡ bits ++ after → length bits ≡ n → drop (at + n) s ≡ after
behind_piece s bits after at n is long = sym (drop-drop n at s) ∙ ap (drop n) is ∙ drop_at bits after n long
