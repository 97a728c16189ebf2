-- One write of a demotion: the narrow bytes of the first values, and the byte that is owed of the last one.
use Rattle.std.proofs.Common.{rules, ◌≡◌, sym, ap, ℕ, ◌+◌, ◌*◌, ◌/◌, ◌%◌, min, ◌≤◌, ◌<◌, List, [], ◌∷◌, ◌++◌, length, take, drop, get_or, Option, Some, None, append_assoc, append-nil, length-append, take-append-drop, take-take, arith}
use Rattle.std.proofs.lemmas.List.{length-take, length-take-le, take-append-le, take_at, take_more}
use Rattle.std.proofs.Math.Nat.{mul-le-mul_right}
use Rattle.zf_narrow.{specs.declared.narrow.Narrow.{Narrow}}
use Rattle.zf_narrow.{specs.Values.{size_of}, specs.RawNarrow.{demoted_bytes}, specs.Promoting.{listed}}
use Rattle.zf_narrow.proofs.Whole.{demoted_bytes-append, length-demoted_bytes}

-- the values that are whole or begun in so many narrow bytes
abbrev pub begun_values : Narrow → ℕ → ℕ
begun_values n k = k / size_of n + min 1 (k % size_of n)

-- there are enough of them, less than a byte too many, and no more than there were
pub begun_values-bounds : (n : Narrow) (k count : ℕ) → k ≤ count * size_of n → (begun_values n k ≤ count) × (k ≤ begun_values n k * size_of n) × (begun_values n k * size_of n ≤ k + 1)
begun_values-bounds n k count within = grind arith

-- the bytes of the first values are the first of the bytes
pub prefix_demoted : (n : Narrow) (count values : ℕ) (raw given : List ℕ) → values ≤ count → count * 4 ≤ length raw → given ≡ demoted_bytes n (take (count * 4) raw) → take (values * size_of n) given ≡ demoted_bytes n (take (values * 4) raw)
prefix_demoted n count values raw given few room is =
    let s = take (count * 4) raw in
    let a = values * 4 in
    let within : a ≤ count * 4 = mul-le-mul_right 4 few in
    let long : length s ≡ count * 4 = length-take-le (count * 4) raw room in
    let prefix_long : length (take a s) ≡ a = length-take-le a s (omega (arith, long, within)) in
    let count_is : length (take a s) / 4 ≡ values = omega (arith, prefix_long) in
    let parts = rw take-append-drop at (demoted_bytes-append n (take a s) (drop a s) (omega (arith, prefix_long))) in
    search (rules, is, parts, take_at, take-take, length-demoted_bytes, count_is)

-- the bytes that were written, and the one that is owed
pub with_owed : (k m : ℕ) (piece : List ℕ) (d : ℕ) → k < m → m ≤ k + 1 → k < length piece → take k piece ++ get_or piece k d ∷ [] ≡ take m piece
with_owed k m piece d more most within = search (rules, take_more)

-- so many narrow bytes
pub part_long : (n : Narrow) (count : ℕ) (raw part : List ℕ) → count * 4 ≤ length raw → part ≡ demoted_bytes n (take (count * 4) raw) → length part ≡ count * size_of n
part_long n count raw part room is = search (rules, length-take-le, length-demoted_bytes)

pub owes_one : (n : Narrow) (count values k len : ℕ) (raw part past : List ℕ) (d : ℕ) (owed : Option ℕ) → count * 4 ≤ length raw → part ≡ demoted_bytes n (take (count * 4) raw) → len ≡ size_of n → k ≤ count * size_of n → values ≡ begun_values n k
    → owed ≡ Some (get_or (part ++ past) k d) → k < values * len → take k (part ++ past) ++ listed owed ≡ take (values * size_of n) (part ++ past)
owes_one n count values k len raw part past d owed room is len_is within values_is owed_is some =
    let same : begun_values n k * size_of n ≡ values * size_of n = ap (λ m. m * size_of n) (sym values_is) in
    let place : values * len ≡ values * size_of n = ap (λ m. values * m) len_is in
    let bounds = begun_values-bounds n k count within in
    let all : values * size_of n ≤ count * size_of n = mul-le-mul_right (size_of n) (omega (arith, bounds.0, values_is)) in
    rw owed_is
    (with_owed k (values * size_of n) (part ++ past) d (omega (arith, some, place)) (omega (arith, bounds.2, same)) (omega (arith, length-append part past, part_long n count raw part room is, some, place, all)))

pub owes_none : (n : Narrow) (count values k len : ℕ) (bytes : List ℕ) (owed : Option ℕ) → len ≡ size_of n → k ≤ count * size_of n → values ≡ begun_values n k
    → owed ≡ None → values * len ≤ k → take k bytes ++ listed owed ≡ take (values * size_of n) bytes
owes_none n count values k len bytes owed len_is within values_is owed_is none = search (rules, begun_values-bounds, append-nil)

-- what is written and owed behind what was written before are the bytes of the values behind those from before
pub written_is : (n : Narrow) (count values k : ℕ) (raw part past given taken owed : List ℕ) → values ≤ count → count * 4 ≤ length raw → part ≡ demoted_bytes n (take (count * 4) raw) → given ≡ demoted_bytes n taken → length taken % 4 ≡ 0
    → take k (part ++ past) ++ owed ≡ take (values * size_of n) (part ++ past) → (given ++ take k (part ++ past)) ++ owed ≡ demoted_bytes n (taken ++ take (values * 4) raw)
written_is n count values k raw part past given taken owed few room is before whole here =
    let within : values * size_of n ≤ length part = omega (arith, part_long n count raw part room is, mul-le-mul_right (size_of n) few) in
    let prefix = prefix_demoted n count values raw part few room is in
    let cut = take-append-le (values * size_of n) part past within in
    let more = demoted_bytes-append n taken (take (values * 4) raw) whole in
    cc (append_assoc given (take k (part ++ past)) owed, cut, prefix, more)

-- no more were written than there were
pub within_prefix : (n : Narrow) (count k len : ℕ) (bytes : List ℕ) → len ≡ size_of n → k ≤ length (take (count * len) bytes) → k ≤ count * size_of n
within_prefix n count k len bytes is within = omega (arith, within, length-take (count * len) bytes, ap (λ m. count * m) is)
