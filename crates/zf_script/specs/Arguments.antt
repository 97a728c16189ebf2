-- What stands behind a verb where it is more than one word.
use Rattle.std.specs.Prelude.{ℕ, ℤ, ◌≡◌, ◌^◌, ◌<◌, List, [], ◌∷◌, IsTrue, decimal}
use Rattle.std.specs.Fmt.{signed_decimal}
use Rattle.zf_base.specs.declared.position.Pos.{Pos}
use Rattle.zf_base.specs.Positions.{used_axes, with_unused}
use Rattle.zf_cached.specs.Grammar.{comma, letter_x, numbers_text, is_value, has_axes}

-- the words are a position and a value
pub record IsPositionAndValue (d : ℕ) (words : List (List ℕ)) (p : Pos) (v : ℤ) : Type 0 where
  pub axes : IsTrue (has_axes d (used_axes d p))
  pub value : IsTrue (is_value v)
  pub text : words ≡ numbers_text comma (used_axes d p) ∷ signed_decimal v ∷ []
  pub others : p ≡ with_unused 0 (used_axes d p)

abbrev pub NoPositionAndValue : ℕ → List (List ℕ) → Type 0
NoPositionAndValue d words =
    (p : List ℕ) (v : ℤ) → IsTrue (has_axes d p) → IsTrue (is_value v)
    → words ≡ numbers_text comma p ∷ signed_decimal v ∷ [] → ⊥

-- the words are an origin, sizes and steps
pub record IsWindow (d : ℕ) (words : List (List ℕ)) (p s t : Pos) : Type 0 where
  pub origin : IsTrue (has_axes d (used_axes d p))
  pub sizes : IsTrue (has_axes d (used_axes d s))
  pub steps : IsTrue (has_axes d (used_axes d t))
  pub text : words
      ≡ numbers_text comma (used_axes d p) ∷ numbers_text letter_x (used_axes d s)
      ∷ numbers_text comma (used_axes d t) ∷ []
  pub other_origins : p ≡ with_unused 0 (used_axes d p)
  pub other_sizes : s ≡ with_unused 1 (used_axes d s)
  pub other_steps : t ≡ with_unused 1 (used_axes d t)

abbrev pub NoWindow : ℕ → List (List ℕ) → Type 0
NoWindow d words =
    (p s t : List ℕ) → IsTrue (has_axes d p) → IsTrue (has_axes d s) → IsTrue (has_axes d t)
    → words ≡ numbers_text comma p ∷ numbers_text letter_x s ∷ numbers_text comma t ∷ [] → ⊥

-- the words are two numbers
abbrev pub IsTwoNumbers : List (List ℕ) → ℕ → ℕ → Type 0
IsTwoNumbers words a i = words ≡ decimal a ∷ decimal i ∷ []

abbrev pub NoTwoNumbers : List (List ℕ) → Type 0
NoTwoNumbers words = (a i : ℕ) → a < 2 ^ 64 → i < 2 ^ 64 → words ≡ decimal a ∷ decimal i ∷ [] → ⊥
