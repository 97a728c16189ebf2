-- As many bits as the longest codes have are enough for any codes, so that what is restored has the length of the raw values.
use Rattle.std.proofs.Common.{◌≡◌, ◌≢◌, refl, sym, ap, ◌∙◌, ℕ, zero, suc, ◌+◌, ◌*◌, ◌^◌, ◌<◌, ◌≤◌, Bool, false, cond, ltb, le-ltb, ℤ, Option, Some, None, Result, Ok, List, [], ◌∷◌, ◌++◌, length, take, drop, replicate, mul-le-mul_left, mul_comm, length-drop, length-append, arith, rules}
use Rattle.std.{proofs.lemmas.List.{length-take, length-replicate}, proofs.Math.Nat.{pow-le-pow_right}}
use Rattle.std.specs.Int.{byte_len}
use mir.Val.{bits}
use Rattle.zf_spec.{specs.Numbers.{number}, specs.Grid.{product, blocks, extent_of}, specs.Planes.{code}}
use Rattle.zf_spec.{specs.ReadPlanes.{planes_in}, specs.Lorenzo.{unlorenzo}, proofs.Fields.{number-lt}}
use Rattle.zf_spec.specs.Codes.{coefficients_of, existing_values, count_bits, read_rev, read_prec}
use Rattle.zf_spec.{proofs.Counting.{length-map-upto}, proofs.Full.{length-planes_in, planes_in-length}}
use Rattle.zf_spec.{proofs.PlaneCode.{length-code-le}, proofs.RawValues.{length-raw}}
use Rattle.zf_base.{specs.declared.lane.Ty.{Ty}, specs.declared.lane.Ty.TheVariants.{I32, I64}}
use Rattle.zf_base.{specs.Widths.{width_of}, proofs.Extents.{length-extent_of}}
use Rattle.zf_header.{specs.declared.header.Header.{Header}}
use Rattle.zf_header.{specs.declared.header.Mode.{Mode}, specs.HeaderFaults.{header_fault}}
use Rattle.zf_header.specs.declared.header.Mode.TheVariants.{Reversible, Rate, Precision}
use Rattle.zf_block.specs.Room.{longest_rev, longest_prec}
use Rattle.zf_parse.specs.Raw.{raw_len}
use Rattle.zf_parse.specs.Parsing.{read_code, read_codes, values_of_blocks, header_of, code_bits, longest_code, longest_codes, restored_text}
use Rattle.zf_parse.proofs.Steps.{with_block, read_next, read_codes-suc}

-- ---- one code

-- a code was read, of at most so many bits
record Reads (found : Option (List ℤ × ℕ)) (most : ℕ) : Type 0 where
  code : List ℤ × ℕ
  is : found ≡ Some code
  fits : code.1 ≤ most

pub planes_fit : (p size n : ℕ) (s : List Bool) → p ≤ n → length (code (planes_in p size s)) ≤ size * (n + 1)
planes_fit p size n s few =
    let more : size * p ≤ size * n = mul-le-mul_left size few in
    let count = ap (λ k. size * k) (length-planes_in p size s) in
    omega (arith, (length-code-le size (planes_in p size s) (planes_in-length p size s)), more, count)

-- the number in so many bits at most
number_small : (k : ℕ) (s : List Bool) → number (take k s) < 2 ^ k
number_small k s = search (rules, length-take, number-lt, pow-le-pow_right)

pub count_fits : (ty : Ty) (s : List Bool) → (number (take (count_bits (width_of ty)) s) + 1 ≤ bits (width_of ty)) × (count_bits (width_of ty) ≤ 6)
count_fits I32 s = (omega (arith, number_small 5 s), omega arith)
count_fits I64 s = (omega (arith, number_small 6 s), omega arith)

-- the longest code of a block in a mode
longest : Ty → Mode → ℕ → ℕ
longest ty Reversible d = longest_rev (bits (width_of ty)) d
longest ty (Rate b) d = b
longest ty (Precision p) d = longest_prec (bits (width_of ty)) d

reads_code : (ty : Ty) (mode : Mode) (es : List ℕ) (s : List Bool) → longest ty mode (length es) ≤ length s → Reads (read_code (width_of ty) mode es s) (longest ty mode (length es))
unfolding longest read_rev read_prec
reads_code ty Reversible es s enough =
    let w = width_of ty in
    let count = count_fits ty s in
    let fit = planes_fit (number (take (count_bits w) s) + 1) (4 ^ length es) (bits w) (drop (count_bits w) s) count.0 in
    let ps = planes_in (number (take (count_bits w) s) + 1) (4 ^ length es) (drop (count_bits w) s) in
    let len = count_bits w + length (code ps) in
    let within : ltb (length s) len ≡ false = le-ltb (length s) len (omega (arith, fit, count.1)) in
    let found : List ℤ × ℕ = (existing_values es (unlorenzo w (length es) (coefficients_of w (length es) ps)), len) in
    record { code = found; is = ap (λ t. cond t None (Some found)) within; fits = omega (arith, fit, count.1) }
reads_code ty (Rate b) es s enough = grind (arith, le-ltb (length s) b enough)
reads_code ty (Precision p) es s enough = search (rules, planes_fit, le-ltb)

-- ---- the codes of blocks

-- codes were read
pub record ReadsAll (found : Result (List (List ℤ) × List Bool) ℕ) : Type 0 where
  pub all : List (List ℤ) × List Bool
  pub is : found ≡ Ok all

reads_all : (h : Header) (most b n : ℕ) (s : List Bool) → ((k : ℕ) (t : List Bool) → most ≤ length t → Reads (read_code (width_of h.ty) h.mode (extent_of h.shape k) t) most)
    → n * most ≤ length s → ReadsAll (read_codes h b n s)
reads_all h most b zero s each enough = record { all = ([], s); is = refl }
reads_all h most b (suc n) s each enough =
    let here = each b s (omega arith) in
    let rest = drop here.code.1 s in
    let behind = reads_all h most (suc b) n rest each (omega (arith, length-drop here.code.1 s, here.fits)) in
    record {
      all = (here.code.0 ∷ behind.all.0, behind.all.1);
      is = read_codes-suc h b n s ∙ ap (λ (c : Option (List ℤ × ℕ)). read_next b s c (read_codes h (suc b) n)) here.is ∙ ap (with_block here.code.0) behind.is;
    }

longest-is : (h : Header) → longest_code h ≡ longest h.ty h.mode (length h.shape)
unfolding longest
longest-is h = search rules

-- the bits of the longest code are enough for one
pub enough_for_one : (h : Header) (es : List ℕ) (s : List Bool) → length es ≡ length h.shape → longest_code h ≤ length s → read_code (width_of h.ty) h.mode es s ≢ None
enough_for_one h es s dims enough none =
    let read = reads_code h.ty h.mode es s (omega (arith, longest-is h, ap (longest h.ty h.mode) dims, enough)) in
    let no : None ≡ Some read.code = sym none ∙ read.is in
    absurd cc

-- zeros behind are enough, whatever stands in front of them
pub enough_for_all : (h : Header) (s : List Bool) → ReadsAll (read_codes h 0 (blocks h.shape) (s ++ replicate (longest_codes h) false))
enough_for_all h s =
    let most = longest_code h in
    let zeros : List Bool = replicate (longest_codes h) false in
    reads_all h most 0 (blocks h.shape) (s ++ zeros)
    (λ k t enough.
    let d = length-extent_of h.shape k in
    let same : longest h.ty h.mode (length (extent_of h.shape k)) ≡ most = ap (longest h.ty h.mode) d ∙ sym (longest-is h) in
    let read = reads_code h.ty h.mode (extent_of h.shape k) t (omega (arith, same)) in
    record { code = read.code; is = read.is; fits = omega (arith, same, read.fits) })
    (omega (arith, length-append s zeros, length-replicate (longest_codes h) false))

-- ---- what is restored

pub length-values_of_blocks : (ns : List ℕ) (bs : List (List ℤ)) → length (values_of_blocks ns bs) ≡ product ns
length-values_of_blocks ns bs = length-map-upto _ (product ns)

pub length-restored_text : (bytes : List ℕ) → header_fault bytes ≡ None → length (restored_text bytes) ≡ raw_len (header_of bytes)
unfolding restored_text
length-restored_text bytes good =
    let h = header_of bytes in
    let read = enough_for_all h (code_bits bytes) in
    let size = mul_comm (product h.shape) (byte_len (width_of h.ty)) in
    cc (read.is, length-raw (width_of h.ty) (values_of_blocks h.shape read.all.0), length-values_of_blocks h.shape read.all.0)
