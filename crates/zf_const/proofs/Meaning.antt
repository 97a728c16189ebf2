-- What is read of a stream is what its codes mean.
use Rattle.std.proofs.Common.{◌≡◌, sym, ap, ◌∙◌, ℕ, ◌<◌, ℤ, Bool, Some, List, length, take, rules}
use Rattle.std.specs.Int.{Width}
use Rattle.zf_spec.{specs.Grid.{extent_of}, specs.Codes.{existing_values, read_rev, read_prec}}
use Rattle.zf_spec.{proofs.Counting.{get_or-map-upto}, proofs.Padding.{existing_values-existing_values}}
use Rattle.zf_base.{specs.Widths.{width_of}, specs.Formats.{meant}}
use Rattle.zf_header.{specs.declared.header.Header.{Header}, specs.declared.header.Mode.{Mode}}
use Rattle.zf_header.specs.declared.header.Mode.TheVariants.{Reversible, Rate, Precision}
use Rattle.zf_header.specs.HeaderBits.{coding}
use Rattle.zf_cached.specs.Arrays.{mode_coding, rate_coding, array_format, read_values}
use Rattle.zf_cached.proofs.Arrays.{existing_of-array, existing_values-read_rate}
use Rattle.zf_parse.{specs.Parsing.{read_code}, proofs.Prefixes.{found_some, read_code-prefix}}
use Rattle.zf_index.{specs.Spans.{Index, code_in, codes_in}, specs.Files.{AreRead, found, block_read}}
use Rattle.zf_index.proofs.Read.{read_parts}
use Rattle.zf_const.specs.Standing.{coding_of, code_of}

-- a code of just so many bits means the block that is read
code_means : (w : Width) (mode : Mode) (es : List ℕ) (s : List Bool) (block : List ℤ) (k : ℕ) → read_code w mode es s ≡ Some (block, k) → (mode_coding w (coding mode)).meaning es (take k s) ≡ block
unfolding mode_coding rate_coding
code_means w Reversible es s block k e = ap read_values (read_code-prefix w Reversible es s block k e)
code_means w (Rate b) es s block k e = search (rules, found_some)
code_means w (Precision p) es s block k e = ap read_values (read_code-prefix w (Precision p) es s block k e)

meant-code : (h : Header) (b : ℕ) (s : List Bool) (block : List ℤ) (k : ℕ) → existing_values (extent_of h.shape b) block ≡ block
    → read_code (width_of h.ty) h.mode (extent_of h.shape b) s ≡ Some (block, k) → meant (array_format (coding_of h) h.shape) b (take k s) ≡ block
unfolding meant array_format
meant-code h b s block k existing e = search (rules, existing_of-array, code_means)

-- the block that is read has zeros where no place exists
rev_existing : (w : Width) (es : List ℕ) (s : List Bool) (block : List ℤ) (k : ℕ) → read_rev w es s ≡ Some (block, k) → existing_values es block ≡ block
unfolding read_rev
rev_existing w es s block k e = let is = found_some _ _ block _ k e in ap (existing_values es) (sym is.same) ∙ existing_values-existing_values es _ ∙ is.same

prec_existing : (w : Width) (p : ℕ) (es : List ℕ) (s : List Bool) (block : List ℤ) (k : ℕ) → read_prec w p es s ≡ Some (block, k) → existing_values es block ≡ block
unfolding read_prec
prec_existing w p es s block k e = let is = found_some _ _ block _ k e in ap (existing_values es) (sym is.same) ∙ existing_values-existing_values es _ ∙ is.same

code_existing : (w : Width) (mode : Mode) (es : List ℕ) (s : List Bool) (block : List ℤ) (k : ℕ) → read_code w mode es s ≡ Some (block, k) → existing_values es block ≡ block
code_existing w Reversible es s block k e = rev_existing w es s block k e
code_existing w (Rate b) es s block k e = search (rules, found_some, existing_values-read_rate)
code_existing w (Precision p) es s block k e = prec_existing w p es s block k e

-- so a code of just so many bits means what is read
pub meant-read : (h : Header) (b : ℕ) (s : List Bool) (block : List ℤ) (k : ℕ) → read_code (width_of h.ty) h.mode (extent_of h.shape b) s ≡ Some (block, k)
    → meant (array_format (coding_of h) h.shape) b (take k s) ≡ block
meant-read h b s block k e = meant-code h b s block k (code_existing (width_of h.ty) h.mode (extent_of h.shape b) s block k e) e

-- ---- by an index

module _ (h : Header) (i : Index) (s : List Bool) where
  pub code_there : (b : ℕ) → b < length i.lens → code_of h (codes_in i s) b ≡ code_in i s b
  code_there b lt = get_or-map-upto (code_in i s) (length i.lens) b (coding_of h).zero lt

  pub found_meant : (b : ℕ) → b < length i.lens → AreRead h i s → meant (array_format (coding_of h) h.shape) b (code_of h (codes_in i s) b) ≡ block_read (found h i s b)
  found_meant b lt read = search (rules, code_there, meant-read, read_parts)
