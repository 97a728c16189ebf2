-- A buffer that is filled piece by piece.
use Rattle.std.proofs.Common.{◌≡◌, ℕ, ◌+◌, ◌-◌, ◌≤◌, List, [], ◌++◌, length, take, drop, ap, sym, ◌∙◌, append-nil, arith, rules}
use Rattle.std.proofs.lemmas.List.{length-take, length-take-le, length-drop, take-append-le, drop-drop, drop_all, take_rest, take_at, take-append-drop}
use Rattle.std.proofs.Math.Seq.{take-append-add, drop-append-add}
use borrow.Rule.Slice.PartMut.{put_mid}

-- the prefix after one more piece: `part` stands from `at` on, for `room` bytes
pub take-put_mid_part : (buf part : List ℕ) (at room count : ℕ) → at ≤ length buf → count ≤ length part → take (at + count) (put_mid at room buf part) ≡ take at buf ++ take count part
take-put_mid_part buf part at room count in_buf in_part = search (rules, length-take-le, take-append-add, take-append-le)

-- what stays behind it
pub drop-put_mid_part : (buf part : List ℕ) (at room count : ℕ) → at ≤ length buf → count ≤ length part → length buf ≤ at + room → drop (at + count) (put_mid at room buf part) ≡ drop count part
drop-put_mid_part buf part at room count in_buf in_part to_end =
    let prefix = take at buf in
    let past = drop room (drop at buf) in
    let nothing : past ≡ [] = drop_all room (drop at buf) (omega (arith, length-drop at buf)) in
    ap (λ n. drop (n + count) (prefix ++ (part ++ past))) (sym (length-take-le at buf in_buf))
    ∙ (drop-append-add prefix (part ++ past) count ∙ (ap (λ rest. drop count (part ++ rest)) nothing ∙ ap (λ rest. drop count rest) (append-nil part)))

-- where a piece leaves its own rest, the whole buffer keeps its rest
pub rest_more : (start buf part : List ℕ) (at count : ℕ) → at ≤ length buf → count ≤ length part → drop at buf ≡ drop at start → drop count part ≡ drop count (take (length buf - at) (drop at buf))
    → drop (at + count) (put_mid at (length buf - at) buf part) ≡ drop (at + count) start
rest_more start buf part at count in_buf in_part kept rest = search (rules, drop-put_mid_part, take_rest, drop-drop)

-- a count within the rest of a list ends within the list
pub end_in_range : (bytes : List ℕ) (at count : ℕ) → at ≤ length bytes → count ≤ length (take (length bytes - at) (drop at bytes)) → at + count ≤ length bytes
end_in_range bytes at count in_range within =
    omega (arith, length-take (length bytes - at) (drop at bytes), length-drop at bytes)

-- a copy of the first `count` bytes of what is left, in front of the rest of a buffer: these bytes, and what is then left
pub copied_prefix : (left piece rest : List ℕ) (count : ℕ) → count ≤ length left → piece ≡ take count left → left ≡ take count (piece ++ rest) ++ drop count left
copied_prefix left piece rest count in_range copied = search (rules, length-take-le, take-append-drop, take_at)
