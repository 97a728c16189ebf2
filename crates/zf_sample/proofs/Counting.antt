-- Changes so far and those to come.
use Rattle.std.proofs.Common.{◌≡◌, ℕ, zero, suc, ◌+◌, ◌*◌, min, Bool, true, false, not, cond, List, [], ◌∷◌, length, take, drop, refl, ap, ◌∙◌, arith, zero-add, mul_comm, ⊎_elim, eqb, rules}
use Rattle.std.{specs.Str.{bytes_eq}, specs.Int.{byte_len}, proofs.lemmas.List.{length-map}}
use Rattle.std.{proofs.lemmas.Bool.{and_from}, proofs.lemmas.Bool.Decides.{eqb_tells}}
use Rattle.rand_core.specs.Stream.{Stream, next_u64}
use Rattle.zf_spec.{specs.Grid.{product}, proofs.RawValues.{length-raw, raw_small}}
use Rattle.zf_base.specs.Widths.{width_of}
use Rattle.zf_header.{specs.declared.header.Header.{Header}, specs.HeaderBits.{IsHeader}}
use Rattle.zf_header.specs.declared.header.Mode.TheVariants.{Reversible}
use Rattle.zf_parse.{specs.Raw.{raw_len}, proofs.StreamsBack.{text-reversible_text}}
use Rattle.zf_sample.specs.Made.{generator, words, value_of_word, made_values}
use Rattle.zf_sample.specs.Summaries.{changes, made_bytes, summary_of}

take-min : (n : ℕ) (xs : List ℕ) → take (min n (length xs)) xs ≡ take n xs
take-min zero xs = search rules
take-min (suc n) [] = search rules
take-min (suc n) (x ∷ xs) =
    let more : min (suc n) (suc (length xs)) ≡ suc (min n (length xs)) = omega arith in
    ap (λ k. take k (x ∷ xs)) more ∙ ap (λ rest. x ∷ rest) (take-min n xs)

drop-min : (n : ℕ) (xs : List ℕ) → drop (min n (length xs)) xs ≡ drop n xs
drop-min zero xs = search rules
drop-min (suc n) [] = search rules
drop-min (suc n) (x ∷ xs) =
    let more : min (suc n) (suc (length xs)) ≡ suc (min n (length xs)) = omega arith in
    ap (λ k. drop k (x ∷ xs)) more ∙ drop-min n xs

flip : (q : Bool) (one : ℕ) → cond (not q) one 0 ≡ cond q 0 one
flip true one = refl
flip false one = refl

now_same : (now changed p q x y z : ℕ) → now ≡ changed + p → p ≡ q → x ≡ y → z ≡ q + y → now + x ≡ changed + z
now_same now changed p q x y z a b c d = omega arith

-- one more value
pub next_change : (len k n changed now p q : ℕ) (xs ys a b more others : List ℕ) (differ : Bool) → n ≡ suc k → p ≡ min len (length xs) → q ≡ min len (length ys)
    → a ≡ take p xs → b ≡ take q ys → more ≡ drop p xs → others ≡ drop q ys → differ ≡ not (bytes_eq a b) → now ≡ changed + cond differ 1 0
    → now + changes len k more others ≡ changed + changes len n xs ys
next_change len k n changed now p q xs ys a b more others differ is_next p_is q_is a_is b_is more_is others_is differ_is now_is =
    let first : a ≡ take len xs = a_is ∙ (ap (λ m. take m xs) p_is ∙ take-min len xs) in search (rules, take-min, drop-min, flip, now_same)

-- nothing changed in a list that is the same
same_bytes : (xs : List ℕ) → bytes_eq xs xs ≡ true
same_bytes [] = refl
same_bytes (x ∷ xs) = and_from (eqb x x) (bytes_eq xs xs) (⊎_elim (λ same. same.0) (λ other. absurd (other.1 refl)) (eqb_tells x x)) (same_bytes xs)

no_changes : (len n : ℕ) (xs : List ℕ) → changes len n xs xs ≡ 0
no_changes len zero xs = refl
no_changes len (suc n) xs = ap (λ b. cond b 0 1 + changes len n (drop len xs) (drop len xs)) (same_bytes (take len xs)) ∙ (zero-add (changes len n (drop len xs) (drop len xs)) ∙ no_changes len n (drop len xs))

-- a reversible stream restores what it was made of
pub none_changed : (h : Header) (seed : ℕ) → IsHeader h → h.mode ≡ Reversible → (summary_of h seed).changed ≡ 0
none_changed h seed header mode =
    let w = width_of h.ty in
    let n = product h.shape in
    let values = made_values w n seed in
    let bytes = made_bytes h seed in
    let long : length bytes ≡ raw_len h = length-raw w values ∙ (ap (λ k. k * byte_len w) (length-map (words n (generator seed)) (value_of_word w) ∙ length-words n (generator seed)) ∙ mul_comm n (byte_len w)) in
    let back = text-reversible_text h bytes header mode long (raw_small w values) in
    ap (changes (byte_len w) n bytes) back ∙ no_changes (byte_len w) n bytes
  where
    length-words : (n : ℕ) (s : Stream) → length (words n s) ≡ n
    length-words zero s = refl
    length-words (suc n) s = ap suc (length-words n (next_u64 s).1)
