-- What tags name.
use Rattle.std.proofs.Common.{◌≡◌, ◌≢◌, ◌⊎◌, inl, inr, refl, sym, ap, ◌∙◌, ℕ, zero, suc, ◌+◌, ◌-◌, ◌/◌, ◌%◌, ◌^◌, ◌<◌, ◌≤◌, ◌==◌, true, false, Option, Some, None, List, length, set, replicate, arith, rules}
use Rattle.std.{proofs.lemmas.Bool.{ne_eqb, cases_eq}, proofs.lemmas.Nat.{pow_pos, and_mask}, specs.Int.Bits.{bit_and}}
use Rattle.std.{proofs.Math.Pow.{pow_mono}, proofs.lemmas.List.{get_or-set_same, get_or-set_other, ext_get_or, length-replicate, get_or-replicate}}
use Rattle.zf_cached.specs.State.{is_block}
use Rattle.zf_cache.specs.Kept.{tag_at, one_less, block_in, clean_tag, dirty_tag, dirty_of, IsLineCount}

pub is_or_not : (o : Option ℕ) (b : ℕ) → (o ≡ Some b) ⊎ (o ≢ Some b)
is_or_not None b = inr (λ e. cc)
is_or_not (Some a) b = elim (cases_eq a b) [ inl e ↦ inl (ap Some e) | inr n ↦ inr (λ e. let same : a ≡ b = cc in n same) ]

one_less-some : (n b : ℕ) → one_less n ≡ Some b → n ≡ suc b
one_less-some zero b e = cc
one_less-some (suc a) b e = let same : a ≡ b = cc in ap suc same

-- a tag names block b where its half is b + 1
pub names : (tag b : ℕ) → tag / 2 ≡ b + 1 → block_in tag ≡ Some b
names tag b e = let on : tag / 2 ≡ suc b = omega (arith, e) in ap one_less on

pub named : (tag b : ℕ) → block_in tag ≡ Some b → tag / 2 ≡ b + 1
named tag b e = let on : tag / 2 ≡ suc b = one_less-some (tag / 2) b e in omega (arith, on)

pub names-clean : (b : ℕ) → block_in (clean_tag b) ≡ Some b
names-clean b = names (clean_tag b) b (omega arith)

pub names-dirty : (b : ℕ) → block_in (dirty_tag b) ≡ Some b
names-dirty b = names (dirty_tag b) b (omega arith)

pub is_block-other : (o : Option ℕ) (b : ℕ) → o ≢ Some b → is_block o b ≡ false
is_block-other None b ne = refl
is_block-other (Some a) b ne = ne_eqb a b (λ e. ne (ap Some e))

-- the dirty block that a tag names: the tag is this block's
pub dirty_of-some : (tag b : ℕ) → dirty_of tag ≡ Some b → tag ≡ dirty_tag b
dirty_of-some tag b e = search (rules, named)

-- a tag that names no dirty block is no block's dirty tag
pub dirty_of-none : (tag b : ℕ) → dirty_of tag ≡ None → tag ≢ dirty_tag b
dirty_of-none tag b e is = search (rules, names-dirty)

-- what is put into a tag is there, and the others stay
pub tag-set_same : (tags : List ℕ) (l x : ℕ) → l < length tags → tag_at (set tags l x) l ≡ x
tag-set_same tags l x lt = get_or-set_same tags l x 0 lt

pub tag-set_other : (tags : List ℕ) (l x m : ℕ) → m ≢ l → tag_at (set tags l x) m ≡ tag_at tags m
tag-set_other tags l x m ne = get_or-set_other tags l m x 0 ne

-- a tag that names block b and isn't its dirty tag is its clean tag
pub even : (t b : ℕ) → t / 2 ≡ b + 1 → t ≢ dirty_tag b → t ≡ clean_tag b
even t b half ne = search rules

pub undirty : (tag : ℕ) → tag % 2 ≡ 0 → dirty_of tag ≡ None
undirty tag e = ap (λ (r : ℕ). elim (r == 1) [ true ↦ block_in tag | false ↦ None ]) e

-- tags that are all 0
pub zeros_of : (tags : List ℕ) (n : ℕ) → length tags ≡ n → ((m : ℕ) → m < n → tag_at tags m ≡ 0) → tags ≡ replicate n 0
zeros_of tags n e zeros = ext_get_or 0 tags (replicate n 0) (e ∙ sym (length-replicate {A = ℕ} n 0))
    (λ m lt. let below : m < n = omega (arith, lt, e) in zeros m below ∙ sym (get_or-replicate {A = ℕ} n m 0 0 below))

-- a number of lines is one that masks cut to
pub counts_lines : (n : ℕ) → IsLineCount n → (0 < n) × (n ≤ 2 ^ 16)
counts_lines n h = search (rules, pow_pos, pow_mono)

pub masks_lines : (n : ℕ) → IsLineCount n → (b : ℕ) → b < 2 ^ 64 → bit_and b (n - 1) ≡ b % n
masks_lines n h b lt = ap (λ m. bit_and b (m - 1)) h.2 ∙ and_mask b h.0 ∙ ap (λ m. b % m) (sym h.2)
