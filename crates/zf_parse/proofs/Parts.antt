-- The parts of what a good stream says, and that its values are of its type.
use Rattle.std.proofs.Common.{◌≡◌, refl, ap, subst, ℕ, suc, ◌-◌, Bool, false, ℤ, FitsSigned, None, Result, Ok, Err, List, [], ◌∷◌, ◌++◌, map, length, replicate, All, rules}
use Rattle.std.{specs.Result.{result_map_both}, proofs.lemmas.List.Elements.{All-nil, All-cons}}
use Rattle.zf_spec.specs.Grid.{product, blocks, extent_of}
use Rattle.zf_base.specs.Widths.{width_of}
use Rattle.zf_header.{specs.declared.header.Header.{Header}}
use Rattle.zf_header.specs.HeaderFaults.{header_fault}
use Rattle.zf_parse.{specs.declared.fault.StreamFault.{StreamFault}, specs.Raw.{raw_bytes}}
use Rattle.zf_parse.specs.Parsing.{coded_blocks, values_of_blocks, fill_answer, header_of, code_bits, Said, parse, longest_codes, restored_text}
use Rattle.zf_parse.proofs.Steps.{Coded, codes_in, blocks_in, by_coded, values_in, values_said, read_coded}
use Rattle.zf_parse.{proofs.TextOfParse.{header_good, text_of_parse}, proofs.Whole.{Stand, read_whole}}
use Rattle.zf_parse.proofs.Enough.{enough_for_all, length-values_of_blocks}
use Rattle.zf_parse.proofs.Fits.{code_fits, joined_fit}

-- the codes were read, and what is said is said of them
pub record Parts (bytes : List ℕ) (said : Said) : Type 0 where
  pub good : header_fault bytes ≡ None
  pub found : Coded
  pub read : coded_blocks (header_of bytes) 0 (blocks (header_of bytes).shape) (code_bits bytes) ≡ Ok found
  pub is : ◌≡◌ {A = Said} (record { header = header_of bytes; codes = codes_in found; values = values_of_blocks (header_of bytes).shape (blocks_in found).0 }) said

said_ok : (said it : Said) (r : Result (Unit {0}) StreamFault) → result_map_both (λ good. said) (λ e. e) r ≡ Ok it → said ≡ it
said_ok said it (Ok good) e = cc
said_ok said it (Err f) e = absurd (cc)

coded_ok : (h : Header) (all : ℕ) (r : Result Coded ℕ) (it : Said) → by_coded h all r ≡ Ok it
    → (found : Coded) × (r ≡ Ok found) × ◌≡◌ {A = Said} (record { header = h; codes = codes_in found; values = values_of_blocks h.shape (blocks_in found).0 }) it
coded_ok h all (Err b) it e = absurd (cc)
coded_ok h all (Ok found) it e =
    let said : Said = record { header = h; codes = codes_in found; values = values_of_blocks h.shape (blocks_in found).0 } in
    (found, refl, said_ok said it (fill_answer h (all - length found.1) found.1) e)

pub parts_of : (bytes : List ℕ) (said : Said) → parse bytes ≡ Ok said → Parts bytes said
unfolding parse
parts_of bytes said e = search (rules, header_good, coded_ok)

-- what is restored of a good stream is the raw bytes of its values
pub text_of_said : (bytes : List ℕ) (said : Said) → parse bytes ≡ Ok said → restored_text bytes ≡ raw_bytes said.header said.values
unfolding values_said
text_of_said bytes said e = cc ((parts_of bytes said e).is, text_of_parse bytes said.values (ap values_in e))

-- ---- the values are of the type

stand_fit : (h : Header) (b : ℕ) (cs : List (List Bool × List ℤ)) → Stand h b cs → All (λ block. All (λ v. FitsSigned (width_of h.ty) v) block) (map (λ c. c.1) cs)
stand_fit h b [] stand = All-nil (λ block. All (λ v. FitsSigned (width_of h.ty) v) block)
stand_fit h b (c ∷ cs) stand =
    All-cons (λ block. All (λ x. FitsSigned (width_of h.ty) x) block) c.1 (map (λ d. d.1) cs)
    (code_fits (width_of h.ty) h.mode (extent_of h.shape b) (c.0 ++ []) c.1 (length c.0) (stand.0 []))
    (stand_fit h (suc b) cs stand.1)

read_fit : (h : Header) (n : ℕ) (s : List Bool) (found : Coded) → coded_blocks h 0 n s ≡ Ok found → All (λ v. FitsSigned (width_of h.ty) v) (values_of_blocks h.shape (blocks_in found).0)
read_fit h n s found read = joined_fit (width_of h.ty) h.shape (blocks_in found).0 (stand_fit h 0 found.0 (read_whole h 0 n s found read).stand)

pub said_fit : (bytes : List ℕ) (said : Said) → parse bytes ≡ Ok said → All (λ v. FitsSigned (width_of said.header.ty) v) said.values
said_fit bytes said e =
    let it = parts_of bytes said e in
    let h = header_of bytes in
    subst (λ (t : Said). All (λ v. FitsSigned (width_of t.header.ty) v) t.values) it.is (read_fit h (blocks h.shape) (code_bits bytes) it.found it.read)

-- what is restored is the raw bytes of as many values of the type as the shape has, whatever stands behind the header
pub restored_fit : (bytes : List ℕ) → header_fault bytes ≡ None
    → (values : List ℤ) × All (λ v. FitsSigned (width_of (header_of bytes).ty) v) values × (length values ≡ product (header_of bytes).shape) × (restored_text bytes ≡ raw_bytes (header_of bytes) values)
unfolding restored_text
restored_fit bytes good =
    let h = header_of bytes in
    let n = blocks h.shape in
    let s : List Bool = code_bits bytes ++ replicate (longest_codes h) false in
    let read = enough_for_all h (code_bits bytes) in
    let coded = read_coded (coded_blocks h 0 n s) read.all read.is in
    let values = values_of_blocks h.shape (blocks_in coded.0).0 in
    (values, read_fit h n s coded.0 coded.1, length-values_of_blocks h.shape (blocks_in coded.0).0, (cc (read.is, coded.2)))
