-- The blocks of a stream, read one after another.
use Rattle.std.proofs.Common.{◌≡◌, ℕ, zero, suc, ◌+◌, ◌-◌, ◌<◌, Bool, ℤ, List, [], ◌∷◌, ◌++◌, drop, Option, Some, None, Result, Ok, Err, refl, sym, ap, ◌∙◌, arith, rules}
use Rattle.std.proofs.lemmas.List.{drop-drop}
use Rattle.zf_spec.specs.Grid.{blocks, extent_of}
use Rattle.zf_base.specs.Widths.{width_of}
use Rattle.zf_bits.specs.Reader.{Reader, rest, Reads}
use Rattle.zf_header.specs.declared.header.Header.{Header}
use Rattle.zf_parse.specs.Parsing.{read_code, read_codes}
use Rattle.zf_parse.proofs.Steps.{read_next, with_block, read_codes-suc}

-- ---- one block more

-- blocks before what the blocks behind them are
abbrev pub with_blocks : List (List ℤ) → Result (List (List ℤ) × List Bool) ℕ → Result (List (List ℤ) × List Bool) ℕ
with_blocks [] rest = rest
with_blocks (block ∷ blocks) rest = with_block block (with_blocks blocks rest)

pub with_blocks-cut : (bs : List (List ℤ)) (k : ℕ) → with_blocks bs (Err k) ≡ Err k
with_blocks-cut [] k = refl
with_blocks-cut (b ∷ bs) k = ap (with_block b) (with_blocks-cut bs k)

-- blocks before blocks
pub with_blocks-both : (bs cs : List (List ℤ)) (s : List Bool) → with_blocks bs (Ok (cs, s)) ≡ Ok (bs ++ cs, s)
with_blocks-both [] cs s = refl
with_blocks-both (b ∷ bs) cs s = ap (with_block b) (with_blocks-both bs cs s)

pub with_blocks-found : (bs : List (List ℤ)) (r : Result (List (List ℤ) × List Bool) ℕ) (found : List (List ℤ) × List Bool) → with_blocks bs r ≡ Ok found → (rest : List (List ℤ)) × (bs ++ rest ≡ found.0)
with_blocks-found bs (Ok rest) found e = grind (arith, with_blocks-both bs rest.0 rest.1)
with_blocks-found bs (Err k) found e = absurd cc (with_blocks-cut bs k, e)

-- ---- the codes in front, and those behind them

with_block_then : (block : List ℤ) (r q : Result (List (List ℤ) × List Bool) ℕ) (found : List (List ℤ) × List Bool) (behind : List Bool → Result (List (List ℤ) × List Bool) ℕ)
    → ((rest : List (List ℤ) × List Bool) → r ≡ Ok rest → q ≡ with_blocks rest.0 (behind rest.1)) → with_block block r ≡ Ok found → with_block block q ≡ with_blocks found.0 (behind found.1)
with_block_then block (Err k) q found behind same e = absurd cc
with_block_then block (Ok rest) q found behind same e = search rules

read_next_then : (b : ℕ) (s : List Bool) (c : Option (List ℤ × ℕ)) (r q : List Bool → Result (List (List ℤ) × List Bool) ℕ) (found : List (List ℤ) × List Bool) (behind : List Bool → Result (List (List ℤ) × List Bool) ℕ)
    → ((t : List Bool) (rest : List (List ℤ) × List Bool) → r t ≡ Ok rest → q t ≡ with_blocks rest.0 (behind rest.1))
    → read_next b s c r ≡ Ok found → read_next b s c q ≡ with_blocks found.0 (behind found.1)
read_next_then b s None r q found behind same e = absurd cc
read_next_then b s (Some code) r q found behind same e =
    let t = drop code.1 s in
    with_block_then code.0 (r t) (q t) found behind (same t) e

pub read_codes-then : (h : Header) (b m n : ℕ) (s : List Bool) (found : List (List ℤ) × List Bool) → read_codes h b m s ≡ Ok found
    → read_codes h b (m + n) s ≡ with_blocks found.0 (read_codes h (b + m) n found.1)
read_codes-then h b zero n s found e = search rules
read_codes-then h b (suc m) n s found e =
    let count : suc m + n ≡ suc (m + n) = omega arith in
    let place : suc b + m ≡ b + suc m = omega arith in
    ap (λ k. read_codes h b k s) count ∙ read_codes-suc h b (m + n) s
    ∙ read_next_then b s (read_code (width_of h.ty) h.mode (extent_of h.shape b) s) (read_codes h (suc b) m) (read_codes h (suc b) (m + n)) found (read_codes h (b + suc m) n)
    (λ t rest is. read_codes-then h (suc b) m n t rest is ∙ ap (λ j. with_blocks rest.0 (read_codes h j n rest.1)) place) (sym (read_codes-suc h b m s) ∙ e)

-- a code that ends too early does so with more blocks behind
with_block_cut : (block : List ℤ) (r q : Result (List (List ℤ) × List Bool) ℕ) (k : ℕ) → (r ≡ Err k → q ≡ Err k) → with_block block r ≡ Err k → with_block block q ≡ Err k
with_block_cut block (Ok rest) q k same e = absurd cc
with_block_cut block (Err j) q k same e = search rules

read_next_cut : (b : ℕ) (s : List Bool) (c : Option (List ℤ × ℕ)) (r q : List Bool → Result (List (List ℤ) × List Bool) ℕ) (k : ℕ) → ((t : List Bool) → r t ≡ Err k → q t ≡ Err k)
    → read_next b s c r ≡ Err k → read_next b s c q ≡ Err k
read_next_cut b s None r q k same e = e
read_next_cut b s (Some code) r q k same e = with_block_cut code.0 (r (drop code.1 s)) (q (drop code.1 s)) k (same (drop code.1 s)) e

pub read_codes-cut_more : (h : Header) (b m n : ℕ) (s : List Bool) (k : ℕ) → read_codes h b m s ≡ Err k → read_codes h b (m + n) s ≡ Err k
read_codes-cut_more h b zero n s k e = absurd cc
read_codes-cut_more h b (suc m) n s k e =
    let count : suc m + n ≡ suc (m + n) = omega arith in
    ap (λ j. read_codes h b j s) count ∙ read_codes-suc h b (m + n) s
    ∙ read_next_cut b s (read_code (width_of h.ty) h.mode (extent_of h.shape b) s) (read_codes h (suc b) m) (read_codes h (suc b) (m + n)) k (λ t is. read_codes-cut_more h (suc b) m n t k is) (sym (read_codes-suc h b m s) ∙ e)

-- one code more
pub read_codes-next : (h : Header) (b k : ℕ) (s behind : List Bool) (blocks : List (List ℤ)) (block : List ℤ) (left : List Bool) → read_codes h 0 b s ≡ Ok (blocks, behind)
    → read_code (width_of h.ty) h.mode (extent_of h.shape b) behind ≡ Some (block, k) → left ≡ drop k behind → read_codes h 0 (b + 1) s ≡ Ok (blocks ++ block ∷ [], left)
read_codes-next h b k s behind blocks block left read code is =
    grind (arith, read_codes-then h 0 b 1 s (blocks, behind) read, read_codes-suc h b 0 behind, with_blocks-both blocks (block ∷ []) (drop k behind))

-- or none
pub read_codes-cut : (h : Header) (b n : ℕ) (s behind : List Bool) (blocks : List (List ℤ)) → b < n → read_codes h 0 b s ≡ Ok (blocks, behind)
    → read_code (width_of h.ty) h.mode (extent_of h.shape b) behind ≡ None → read_codes h 0 n s ≡ Err b
read_codes-cut h b n s behind blocks lt read none =
    let m = n - (b + 1) in
    let count : n ≡ b + suc m = omega arith in
    let place : 0 + b ≡ b = omega arith in
    let moved = ap (λ j. read_codes h j (suc m) behind) place in
    cc (read_codes-then h 0 b (suc m) s (blocks, behind) read, read_codes-suc h b m behind, with_blocks-cut blocks b)

-- what was read is gone from the front
pub rest_behind : (old new : Reader) (bits : List Bool) → Reads old new bits → rest new ≡ drop (new.at - old.at) (rest old)
rest_behind old new bits r = grind (arith, drop-drop (new.at - old.at) old.at old.all)
