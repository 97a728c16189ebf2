-- What a buffer holds: the bytes of a list from one place up to another.
use Rattle.std.proofs.Common.{◌≡◌, ℕ, ◌+◌, ◌-◌, ◌≤◌, List, [], ◌++◌, length, take, drop, ◌↔◌, ap, sym, ◌∙◌, arith, rules}
use Rattle.std.proofs.lemmas.List.{length-take, length-take-le, length-drop, drop-take, drop_all, drop-append-le}
use borrow.Rule.Slice.PartMut.{put_mid}
use Rattle.zf_dev.proofs.Pieces.{take-put_mid_part}

length-held : (bytes : List ℕ) (start end : ℕ) → end ≤ length bytes → length (drop start (take end bytes)) ≡ end - start
length-held bytes start end within = omega (arith, length-drop start (take end bytes), length-take-le end bytes within)

pub held_part : (bytes : List ℕ) (start end : ℕ) → start ≤ end → take (end - start) (drop start bytes) ≡ drop start (take end bytes)
held_part bytes start end ordered =
    let sum : start + (end - start) ≡ end = omega arith in
    sym (ap (λ n. drop start (take n bytes)) (sym sum) ∙ drop-take start (end - start) bytes)

-- none are held exactly where both places are the same
pub held_none : (bytes : List ℕ) (start end : ℕ) → start ≤ end → end ≤ length bytes → (start ≡ end) ↔ (drop start (take end bytes) ≡ [])
held_none bytes start end ordered within = (
  λ same. drop_all start (take end bytes) (omega (arith, length-take end bytes)),
  λ none. omega (arith, length-held bytes start end within, ap length none),
)

-- a part that is put behind what is held
pub held_more : (buf part : List ℕ) (start end room count : ℕ) → start ≤ end → end ≤ length buf → count ≤ length part → drop start (take (end + count) (put_mid end room buf part)) ≡ drop start (take end buf) ++ take count part
held_more buf part start end room count ordered within in_part = search (rules, take-put_mid_part, drop-append-le, length-take-le)
