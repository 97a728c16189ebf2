-- In which line a block is, or goes, as a state tells, and as the tags of the lines tell.
use Rattle.std.specs.Prelude.{◌≡◌, ℕ, zero, suc, ◌+◌, ◌/◌, ◌%◌, ◌==◌, Bool, true, false, not, List, Option, Some}
use Rattle.std.specs.Prelude.{None, is_none}
use Rattle.std.specs.Prelude.{if◌then◌else◌, bit_xor, refl}
use Rattle.std.specs.Int.Bits.{xor_zero_r}
use Rattle.std.proofs.Common.{◌⊎◌, inl, inr, sym, ap, ◌∙◌, ◌<◌, eq-eqb, arith}
use Rattle.std.proofs.lemmas.Bool.{ne_eqb}
use Rattle.std.proofs.Math.Nat.{mod-eq_of_lt, div-eq_of_lt}
use Rattle.std.proofs.lemmas.Nat.{mod_below}
use Rattle.zf_cached.specs.State.{is_block}
use Rattle.zf_cached.specs.Placing.{Line, IsPlacing}
use Rattle.zf_cached.specs.Uncached.{HasOwnLines}
use Rattle.zf_cache.specs.Kept.{IsIn, tag_at, block_in, dirty_tag, dirty_of}
use Rattle.zf_cache.specs.Rules.{IsRule, IsTold}
use Rattle.zf_cached.proofs.Caching.{is_block-some}
use Rattle.zf_cache.proofs.Tags.{named, is_or_not, is_block-other}

-- the first line of block b among n lines: its number modulo n
abbrev pub first_line : ℕ → ℕ → ℕ
first_line n b = b % n

-- its second line: where its number and the n-th part of it differ, bit by bit, modulo n. So blocks with one
-- first line have several second ones
abbrev pub second_line : ℕ → ℕ → ℕ
second_line n b = bit_xor b (b / n) % n

-- which of two lines takes a block in: the first of these cases that holds
abbrev pub choice : Bool → Bool → Bool → Bool → ℕ → ℕ → ℕ
choice first_empty second_empty first_clean second_clean first second =
    if first_empty then first
    else (if second_empty then second
    else (if first_clean then first
    else (if second_clean then second
    else first)))

-- no dirty block is in line l, where the lines hold these blocks and these are dirty
abbrev pub is_clean_in : (ℕ → Option ℕ) → (ℕ → Bool) → ℕ → Bool
is_clean_in held dirty l = elim (held l) [ None ↦ true | Some b ↦ not (dirty b) ]

-- the line that holds the block, or else the line that takes it in: whether the first holds it, whether the
-- second does, and which takes it in
abbrev pub place_by : Bool → Bool → ℕ → ℕ → ℕ → ℕ
place_by in_first in_second taking first second = if in_first then first else
    (if in_second then second else taking)

-- the line of block b among n lines that hold these blocks, where these are dirty
abbrev pub two_lines : Line
two_lines n held dirty b =
    let first = first_line n b in let second = second_line n b in
    place_by (is_block (held first) b) (is_block (held second) b)
    (choice (is_none (held first)) (is_none (held second)) (is_clean_in held dirty first)
    (is_clean_in held dirty second) first second) first second

-- which of two lines with these tags takes a block in
abbrev pub taking_line : ℕ → ℕ → ℕ → ℕ → ℕ
taking_line t u first second =
    choice (is_none (block_in t)) (is_none (block_in u)) (is_none (dirty_of t))
    (is_none (dirty_of u)) first second

-- the line of block b in a cache of n lines with these tags
abbrev pub skewed : ℕ → List ℕ → ℕ → ℕ
skewed n tags b =
    let first = first_line n b in let second = second_line n b in
    let t = tag_at tags first in let u = tag_at tags second in
    place_by (is_block (block_in t) b) (is_block (block_in u) b) (taking_line t u first second) first second

-- line l is the first or the second of block b
abbrev pub IsOneOfTwo : ℕ → ℕ → ℕ → Type 0
IsOneOfTwo n b l = (first_line n b ≡ l) ⊎ (second_line n b ≡ l)

-- ---- so a block is found where it is

pub chosen : (P : ℕ → Type 0) (a b c d : Bool) (first second : ℕ) → P first → P second
    → P (choice a b c d first second)
chosen P true b c d first second p q = p
chosen P false true c d first second p q = q
chosen P false false true d first second p q = p
chosen P false false false true first second p q = q
chosen P false false false false first second p q = p

pub placed : (P : ℕ → Type 0) (a b : Bool) (taking first second : ℕ) → P first → P second → P taking
    → P (place_by a b taking first second)
placed P true b taking first second p q r = p
placed P false true taking first second p q r = q
placed P false false taking first second p q r = r

-- what holds of both lines of a block holds of its line
pub either : (P : ℕ → Type 0) (n : ℕ) (tags : List ℕ) (b : ℕ) → P (first_line n b) → P (second_line n b)
    → P (skewed n tags b)
either P n tags b p q =
    let first = first_line n b in let second = second_line n b in let t = tag_at tags first in
    let u = tag_at tags second in
    placed P (is_block (block_in t) b) (is_block (block_in u) b)
    (taking_line t u first second) first second p q
    (chosen P (is_none (block_in t)) (is_none (block_in u)) (is_none (dirty_of t))
    (is_none (dirty_of u)) first second p q)

pub skewed-first : (n : ℕ) (tags : List ℕ) (b : ℕ) → IsIn tags (first_line n b) b → skewed n tags b
    ≡ first_line n b
skewed-first n tags b is =
    let first = first_line n b in let second = second_line n b in let t = tag_at tags first in
    let u = tag_at tags second in
    ap (λ x. place_by x (is_block (block_in u) b) (taking_line t u first second) first second)
    (is_block-some (block_in t) b is)

pub skewed-second : (n : ℕ) (tags : List ℕ) (b : ℕ) → (IsIn tags (first_line n b) b → ⊥)
    → IsIn tags (second_line n b) b → skewed n tags b ≡ second_line n b
skewed-second n tags b out is =
    let first = first_line n b in let second = second_line n b in let t = tag_at tags first in
    let u = tag_at tags second in
    (λ i. place_by (is_block-other (block_in t) b out i) (is_block-some (block_in u) b is i)
    (taking_line t u first second) first second)

-- a block whose number is below the number of lines has the line of its number as its second line, too
pub second-low : (n b : ℕ) → b < n → second_line n b ≡ b
second-low n b lt = ap (λ q. bit_xor b q % n) (div-eq_of_lt lt) ∙ ap (λ m. m % n) (xor_zero_r b)
    ∙ mod-eq_of_lt lt

pub skewed_rule : IsRule skewed IsOneOfTwo
skewed_rule = record {
  inside = λ n tags b some. either (λ l. l < n) n tags b (mod_below b n some) (mod_below _ n some);
  allowed = λ n tags b. either (IsOneOfTwo n b) n tags b (inl refl) (inr refl);
  found = λ n tags b l may is only. elim may [
    | inl at ↦ skewed-first n tags b (ap (λ j. block_in (tag_at tags j)) at ∙ is) ∙ at
    | inr at ↦ elim (is_or_not (block_in (tag_at tags (first_line n b))) b) [
      | inl first ↦ skewed-first n tags b first ∙ only (first_line n b) first
      | inr out ↦ skewed-second n tags b out (ap (λ j. block_in (tag_at tags j)) at ∙ is) ∙ at
    ]
  ];
}

-- ---- the line that the tags tell is the one that the state tells

module _ (n : ℕ) (tags : List ℕ) (is_placed : (l a : ℕ) → IsIn tags l a → skewed n tags a ≡ l) where
  abbrev soiled : ℕ → Bool
  soiled a = tag_at tags (skewed n tags a) == dirty_tag a

  -- no dirty block is in a line where its tag names none
  clean_line : (l : ℕ) → is_clean_in (λ m. block_in (tag_at tags m)) soiled l ≡ is_none (dirty_of (tag_at tags l))
  clean_line l = by (tag_at tags l) (block_in (tag_at tags l)) refl refl
    where
      odd : (t b r : ℕ) → r ≡ t % 2 → t / 2 ≡ b + 1
          → not (t == dirty_tag b) ≡ is_none (elim (r == 1) [ true ↦ Some b | false ↦ None ])
      odd t b zero at half = ap not (ne_eqb t (dirty_tag b) (λ e. omega (arith, at, half, e)))
      odd t b (suc zero) at half = ap not (eq-eqb t (dirty_tag b) (omega (arith, at, half)))
      odd t b (suc (suc r)) at half = absurd (omega (arith, at))

      none : (odd : Bool) → true ≡ is_none (elim odd [ true ↦ block_in 0 | false ↦ None ])
      none true = refl
      none false = refl

      by : (t : ℕ) (o : Option ℕ) → tag_at tags l ≡ t → block_in t ≡ o
          → is_clean_in (λ m. block_in (tag_at tags m)) soiled l ≡ is_none (dirty_of t)
      by t None is e =
          ap (λ (p : Option ℕ). elim p [ None ↦ true | Some b ↦ not (soiled b) ]) (ap block_in is ∙ e)
          ∙ none (t % 2 == 1)
          ∙ ap (λ (p : Option ℕ). is_none (elim (t % 2 == 1) [ true ↦ p | false ↦ None ])) (sym e)
      by t (Some b) is e =
          let there : IsIn tags l b = ap block_in is ∙ e in
          ap (λ (p : Option ℕ). elim p [ None ↦ true | Some a ↦ not (soiled a) ]) there
          ∙ ap (λ j. not (tag_at tags j == dirty_tag b)) (is_placed l b there)
          ∙ ap (λ u. not (u == dirty_tag b)) is
          ∙ odd t b (t % 2) refl (named t b e)
          ∙ ap (λ (p : Option ℕ). is_none (elim (t % 2 == 1) [ true ↦ p | false ↦ None ])) (sym e)

pub skewed_told : IsTold skewed two_lines
skewed_told n tags b is_placed =
    let first = first_line n b in let second = second_line n b in
    let t = tag_at tags first in let u = tag_at tags second in
    λ i. place_by (is_block (block_in t) b) (is_block (block_in u) b)
    (choice (is_none (block_in t)) (is_none (block_in u)) (clean_line n tags is_placed first i)
    (clean_line n tags is_placed second i) first second) first second

-- ---- the same, where the state tells

module _ (n : ℕ) (held : ℕ → Option ℕ) (dirty : ℕ → Bool) (b : ℕ) where
  abbrev goes : ℕ
  goes =
      let first = first_line n b in let second = second_line n b in
      choice (is_none (held first)) (is_none (held second)) (is_clean_in held dirty first)
      (is_clean_in held dirty second) first second

  pub either_line : (P : ℕ → Type 0) → P (first_line n b) → P (second_line n b) → P (two_lines n held dirty b)
  either_line P p q =
      let first = first_line n b in let second = second_line n b in
      placed P (is_block (held first) b) (is_block (held second) b) goes first second p q
      (chosen P (is_none (held first)) (is_none (held second)) (is_clean_in held dirty first)
      (is_clean_in held dirty second) first second p q)

  pub in_first : held (first_line n b) ≡ Some b → two_lines n held dirty b ≡ first_line n b
  in_first is =
      let first = first_line n b in let second = second_line n b in
      ap (λ x. place_by x (is_block (held second) b) goes first second) (is_block-some (held first) b is)

  pub in_second : (held (first_line n b) ≡ Some b → ⊥) → held (second_line n b) ≡ Some b
      → two_lines n held dirty b ≡ second_line n b
  in_second out is =
      let first = first_line n b in let second = second_line n b in
      (λ i. place_by (is_block-other (held first) b out i)
      (is_block-some (held second) b is i) goes first second)

  pub in_neither : (held (first_line n b) ≡ Some b → ⊥) → (held (second_line n b) ≡ Some b → ⊥)
      → two_lines n held dirty b ≡ goes
  in_neither out none =
      let first = first_line n b in let second = second_line n b in
      (λ i. place_by (is_block-other (held first) b out i)
      (is_block-other (held second) b none i) goes first second)

pub two_placing : IsPlacing two_lines IsOneOfTwo
two_placing = record {
  inside = λ n held dirty b some. either_line n held dirty b (λ l. l < n) (mod_below b n some)
      (mod_below _ n some);
  allowed = λ n held dirty b. either_line n held dirty b (IsOneOfTwo n b) (inl refl) (inr refl);
  found = λ n held dirty b l may is only. elim may [
    | inl at ↦ in_first n held dirty b (ap held at ∙ is) ∙ at
    | inr at ↦ elim (is_or_not (held (first_line n b)) b) [
      | inl first ↦ in_first n held dirty b first ∙ only (first_line n b) first
      | inr out ↦ in_second n held dirty b out (ap held at ∙ is) ∙ at
    ]
  ];
}

pub two_lines-own : HasOwnLines two_lines
two_lines-own n held dirty b lt =
    either_line n held dirty b (λ l. l ≡ b) (mod-eq_of_lt lt) (second-low n b lt)
