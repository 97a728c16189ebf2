-- In which line a block is, or goes, as the tags tell it: what caches over the same parts differ in.
--     `place n tags b` is the line of block b in a cache of n lines with these tags.
use Rattle.std.specs.Prelude.{◌≡◌, ◌==◌, ℕ, ◌<◌, List, refl}
use Rattle.std.proofs.lemmas.Nat.{mod_below}
use Rattle.zf_cached.specs.Placing.{Line, direct, IsDirect}
use Rattle.zf_cache.specs.Kept.{IsIn, tag_at, block_in, dirty_tag, one_line}

-- the line of a block is one that may hold it; and where one that may does, and no other line does, it is that
-- line
pub record IsRule (place : ℕ → List ℕ → ℕ → ℕ) (may_hold : ℕ → ℕ → ℕ → Type 0) : Type 0 where
  pub inside : (n : ℕ) (tags : List ℕ) (b : ℕ) → 0 < n → place n tags b < n
  pub allowed : (n : ℕ) (tags : List ℕ) (b : ℕ) → may_hold n b (place n tags b)
  pub found : (n : ℕ) (tags : List ℕ) (b l : ℕ) → may_hold n b l → IsIn tags l b
      → ((m : ℕ) → IsIn tags m b → m ≡ l) → place n tags b ≡ l

-- where each block in a line is where it is looked for, the tags tell the line that a state of what they name
-- tells
abbrev pub IsTold : (ℕ → List ℕ → ℕ → ℕ) → Line → Type 0
IsTold place line = (n : ℕ) (tags : List ℕ) (b : ℕ)
    → ((l a : ℕ) → IsIn tags l a → place n tags a ≡ l)
    → line n (λ l. block_in (tag_at tags l)) (λ a. tag_at tags (place n tags a) == dirty_tag a) b
    ≡ place n tags b

-- ---- where each block has one line

pub one_line_rule : IsRule one_line IsDirect
one_line_rule = record {
  inside = λ n tags b some. mod_below b n some;
  allowed = λ n tags b. refl;
  found = λ n tags b l own is only. own;
}

pub one_line_told : IsTold one_line direct
one_line_told n tags b placed = refl
