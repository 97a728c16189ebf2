-- Blocks of four values, each rounded down to an even number.
use Rattle.std.proofs.Common.{◌≡◌, sym, ap, ◌∙◌, ℕ, ◌<◌, ℤ, pos, negsuc, FitsSigned, List, [], length, get_or, set, ◌⊎◌, inl, inr, arith}
use Rattle.std.{specs.Int.{Width, w8, w16, w32, w64, w128}, proofs.lemmas.Int.{ints}}
use Rattle.std.{proofs.Math.Path.{fun_ext}, proofs.lemmas.Bool.{cases_eq}}
use Rattle.std.proofs.lemmas.List.{get_or-set_same, get_or-set_other}
use Rattle.zf_spec.proofs.Counting.{map-get_or-upto}
use Rattle.zf_base.{specs.Formats.{existing_of, with_at}, proofs.Formats.{with_at-same, with_at-other}}
use Rattle.zf_array_tests.specs.EvenValues.{even_below, evens_format}

-- twice the half of a value of the type is one
pub even_below_fits : (w : Width) (v : ℤ) → FitsSigned w v → FitsSigned w (even_below v)
even_below_fits w (pos n) h = let f = h.sfits in record { sfits = omega arith }
even_below_fits w8 (negsuc n) h = let f = h.sfits in record { sfits = omega (arith, ints) }
even_below_fits w16 (negsuc n) h = let f = h.sfits in record { sfits = omega (arith, ints) }
even_below_fits w32 (negsuc n) h = let f = h.sfits in record { sfits = omega (arith, ints) }
even_below_fits w64 (negsuc n) h = let f = h.sfits in record { sfits = omega (arith, ints) }
even_below_fits w128 (negsuc n) h = let f = h.sfits in record { sfits = omega (arith, ints) }

-- all places exist
pub existing_of-evens : (n b : ℕ) (values : List ℤ) → length values ≡ 4 → existing_of (evens_format n) b values ≡ values
unfolding existing_of
existing_of-evens n b values h = map-get_or-upto values 4 (pos 0) h

-- blocks in which one is put in the place of block b
pub with_block : (blocks : List (List ℤ)) (b : ℕ) (block : List ℤ) → b < length blocks → (λ k. get_or (set blocks b block) k []) ≡ with_at (λ k. get_or blocks k []) b block
with_block blocks b block h = fun_ext (λ k. by k (cases_eq k b))
  where
    by : (k : ℕ) → (k ≡ b) ⊎ (k ≡ b → ⊥) → get_or (set blocks b block) k [] ≡ with_at (λ j. get_or blocks j []) b block k
    by k (inl e) = ap (λ j. get_or (set blocks b block) j []) e ∙ get_or-set_same blocks b block [] h ∙ sym (ap (with_at (λ j. get_or blocks j []) b block) e ∙ with_at-same (λ j. get_or blocks j []) b block)
    by k (inr other) = get_or-set_other blocks b k block [] other ∙ sym (with_at-other (λ j. get_or blocks j []) b block k other)
