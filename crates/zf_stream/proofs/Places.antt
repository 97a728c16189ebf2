-- Values that are put to the places behind those that are held.
use Rattle.std.proofs.Common.{◌≡◌, ℕ, ◌+◌, ◌-◌, ◌≤◌, List, ◌++◌, length, take, drop, length-append, take_at, ap, ◌∙◌, arith}
use Rattle.std.proofs.lemmas.List.{length-take-le, length-drop}
use Rattle.std.proofs.lemmas.Slice.{take-put_mid}
use borrow.Rule.Slice.PartMut.{put_mid}

-- so many places behind those that are held
pub length-behind : {X : Type 0} (held count len : ℕ) (places lent : List X) → lent ≡ places → length places ≡ len → held + count ≤ len
    → length (take (held + count - held) (drop held lent)) ≡ count
length-behind held count len places lent same all within =
    let k = held + count - held in
    length-take-le k (drop held lent) (omega (arith, length-drop held lent, ap length same, all)) ∙ omega arith

-- of so many places, those behind the first ones were lent and come back with a part
pub put_behind : {X : Type 0} (held count len : ℕ) (places lent part : List X) → lent ≡ places → length places ≡ len → held + count ≤ len → length part ≡ count
    → take (held + count) (take len (put_mid held (held + count - held) lent part ++ drop (length (put_mid held (held + count - held) lent part)) places))
    ≡ take held places ++ part
put_behind held count len places lent part same all within long =
    let k = held + count - held in
    let new = put_mid held k lent part in
    let lent_all : length lent ≡ len = ap length same ∙ all in
    let back : length new ≡ len =
    omega (arith, length-append (take held lent) (part ++ drop k (drop held lent)), length-append part (drop k (drop held lent)), length-take-le held lent (omega arith), length-drop k (drop held lent), length-drop held lent) in
    ap (take (held + count)) (take_at new (drop (length new) places) len back)
    ∙ take-put_mid held k lent part (held + count) (omega (arith, long)) (omega (arith, lent_all))
    ∙ ap (λ vs. take held vs ++ part) same
