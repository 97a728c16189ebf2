-- What comes of reading a code, put together from the planes that it has.
use Rattle.std.proofs.Common.{◌≡◌, ap, subst, ◌∙◌, ℕ, ◌-◌, ◌^◌, ℤ, pos, Bool, List, [], ◌∷◌, replicate}
use Rattle.std.specs.Int.{Width}
use Rattle.zf_spec.{specs.Grid.{IsDimension}, specs.Codes.{coefficients_of}}
use Rattle.zf_bits.specs.Reader.{Reader, rest}
use Rattle.zf_block.{specs.Block.{AreAbove}, specs.Decoding.{PassesCode, LacksBits, StandsFor}}
use Rattle.zf_block.{proofs.Kept.{coefficients_of-zeros}, proofs.ZeroPlanes.{zero_coefficients}}

-- planes that are missing below make no difference to the coefficients
pub coefficients_above : (w : Width) (d size : ℕ) (planes held : List (List Bool)) → AreAbove size planes held → coefficients_of w d held ≡ coefficients_of w d planes
coefficients_above w d size planes held above = ap (coefficients_of w d) above.1 ∙ coefficients_of-zeros w d planes above.0 size

-- a code of planes of this size
module _ (len_at : ℕ → List Bool → ℕ) (planes_at : ℕ → List Bool → List (List Bool)) (old new : Reader) (d size : ℕ) (is : size ≡ 4 ^ d) where
  -- its bits are missing
  pub lacks_block : LacksBits (len_at size (rest old)) old new → LacksBits (len_at (4 ^ d) (rest old)) old new
  lacks_block lacks = let Lacks : ℕ → Type 0 = λ n. LacksBits (len_at n (rest old)) old new in subst Lacks is lacks

  module _ (w : Width) (back : List ℤ → List ℤ) (block : List ℤ) (passes : PassesCode (len_at size (rest old)) old new) where
    -- the block was made of the planes that were read
    pub passes_block : (held : List (List Bool)) → AreAbove size (planes_at size (rest old)) held → block ≡ back (coefficients_of w d held)
        → PassesCode (len_at (4 ^ d) (rest old)) old new × StandsFor w d back (planes_at (4 ^ d)) block (rest old)
    passes_block held above made =
        (rw is at passes, made ∙ ap back (coefficients_above w d (4 ^ d) (planes_at (4 ^ d) (rest old)) held (rw is at above)))

    -- the planes are zero, and the block was made of zeros
    pub passes_zeros : (zero : ℤ) → IsDimension d → AreAbove size [] (planes_at size (rest old)) → zero ≡ pos 0 → block ≡ back (zero ∷ replicate (4 ^ d - 1) (pos 0))
        → PassesCode (len_at (4 ^ d) (rest old)) old new × StandsFor w d back (planes_at (4 ^ d)) block (rest old)
    passes_zeros zero dims above is_zero made =
        let none = rw is at above in (rw is at passes, cc (made, is_zero, zero_coefficients w d dims none.0, none.1))
