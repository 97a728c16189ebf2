-- The codes of padded blocks.
use Rattle.std.{proofs.Common.{◌≡◌, ℕ, ℤ, List, length, refl, sym}, specs.Int.{Width}}
use Rattle.zf_spec.{specs.Grid.{fours}, specs.Padding.{pad}, specs.Codes.{rev, rate, prec}}
use Rattle.zf_spec.{specs.Stream.{Mode, reversible, fixed_rate, fixed_precision, block_code}, proofs.Raster.{length-fours}, proofs.Padding.{length-pad}}
use Rattle.zf_pad.proofs.Sources.{pad-whole}

-- the code of a block is that of the padded one, of which all values exist
pub code_of_padded : (w : Width) (mode : Mode) (es : List ℕ) (block : List ℤ) → block_code w mode (fours (length es)) (pad es block) ≡ block_code w mode es block
unfolding rev rate prec
code_of_padded w mode es block = by mode
  where
    twice : pad (fours (length es)) (pad es block) ≡ pad es block
    twice = sym (pad-whole (length es) (fours (length es)) (pad es block) refl (length-pad es block))

    by : (m : Mode) → block_code w m (fours (length es)) (pad es block) ≡ block_code w m es block
    by reversible = rw (length-fours (length es), twice) refl
    by (fixed_rate b) = rw (length-fours (length es), twice) refl
    by (fixed_precision p) = rw (length-fours (length es), twice) refl
