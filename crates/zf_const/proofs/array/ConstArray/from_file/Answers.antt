use Rattle.std.proofs.Common.{◌≡◌, sym, ap, subst, ◌∙◌, ℕ, ℤ, Bool, List, Ok, map, length}
use Rattle.zf_spec.{specs.Grid.{upto, blocks}, specs.Stream.{to_bits}}
use Rattle.zf_spec.proofs.Counting.{length-map-upto, map-upto_same}
use Rattle.zf_base.specs.Widths.{width_of}
use Rattle.zf_header.{specs.declared.header.Header.{Header}, specs.HeaderBits.{IsHeader}}
use Rattle.zf_cached.specs.Changes.{opened}
use Rattle.zf_cache.proofs.Steps.{empty_fits}
use Rattle.zf_parse.specs.Parsing.{Said, values_of_blocks}
use Rattle.zf_index.{specs.Spans.{Index, code_in, codes_in}, proofs.Read.{is_header}}
use Rattle.zf_index.specs.Files.{HasHeader, IsIndexOf, found, block_read, blocks_found}
use Rattle.zf_const.{specs.Standing.{Held, values_at, open_stream}, specs.Files.{IsOpened}}
use Rattle.zf_const.{specs.Parts.{Coded, seen, code_at, format_of, held_by}, proofs.Meaning.{found_meant}}
use Rattle.zf_const.proofs.Standing.{clean_empty, opens}
use Rattle.zf_const.proofs.array.ConstArray.from_file.Goals as goal

module _ (bytes : List ℕ) (h : Header) (i : Index) (has : HasHeader bytes h) (is : IsIndexOf bytes h i) where
  count : length (codes_in i (to_bits bytes)) ≡ blocks h.shape
  count = length-map-upto (code_in i (to_bits bytes)) (length i.lens) ∙ is.count

  -- the codes mean the blocks that were read
  opened_is : (a : Held) → a.header ≡ h → a.codes ≡ codes_in i (to_bits bytes) → IsOpened bytes h a
  opened_is a header codes =
      let s = to_bits bytes in
      let n = blocks h.shape in
      let of : Header → List (List Bool) → ℕ → List ℤ = λ g cs. values_at (record a { header = g; codes = cs }) in
      let blocks_same : blocks_found h i s ≡ map (of h (codes_in i s)) (upto n) =
      map-upto_same (λ b. block_read (found h i s b)) (of h (codes_in i s)) (length i.lens) (λ b lt. sym (found_meant h i s b lt is.read))
      ∙ ap (λ m. map (of h (codes_in i s)) (upto m)) is.count in
      let Saying : Header → List (List Bool) → Said = λ g cs. record { header = g; codes = cs; values = values_of_blocks g.shape (map (of g cs) (upto (blocks g.shape))) } in
      record {
        header = header;
        count = ap length codes ∙ count;
        said_is = is.said ∙ ap (λ bs. Ok (record { header = h; codes = codes_in i s; values = values_of_blocks h.shape bs })) blocks_same
            ∙ ap (λ g. Ok (Saying g (codes_in i s))) (sym header) ∙ ap (λ cs. Ok (Saying a.header cs)) (sym codes);
      }

-- the codes of a file and its index, said of the file as it came
is_index : (bytes file : List ℕ) (h : Header) (i : Index) → bytes ≡ file → IsIndexOf bytes h i → IsIndexOf file h i
is_index bytes file h i same is = let Is : List ℕ → Type 0 = λ bs. IsIndexOf bs h i in subst Is same is

pub invariant_of-result : goal.invariant_of-result
invariant_of-result g c =
    let file = c.args.file.items in
    let h = c.args.h.now in
    let i = seen c.in_ok-index.index in
    let t = c.in_ok-codes.codes in
    let e = c.in_ok-cache.cache in
    let n = c.raised.result in
    let index = is_index c.deref.result.now file h i c.deref.ensures.value c.in_ok-index.ensures.ok in
    let made = c.in_ok-codes.ensures in
    let Is : Coded → Type 0 = λ u. (g.T.Lane.width ≡ width_of u.header.ty) × (length u.header.shape ≡ g.row.D) × IsHeader u.header × (length u.codes ≡ blocks u.header.shape) in
    let are : Is t = subst Is (sym made) (c.requires.same_type, c.requires.dims, is_header file h c.requires.header, count file h i c.requires.header index) in
    record {
      same_type = are.0;
      dims = are.1;
      header = are.2;
      count = are.3;
      fits = empty_fits g.T.Lane.value (format_of t) (code_at t) e n c.in_ok-cache.ensures.empty;
      clean = clean_empty e n c.in_ok-cache.ensures.empty;
    }

pub returns-clause-opened : goal.returns-clause-opened
returns-clause-opened g c =
    let file = c.args.file.items in
    let h = c.args.h.now in
    let i = seen c.in_ok-index.index in
    let t = c.in_ok-codes.codes in
    let index = is_index c.deref.result.now file h i c.deref.ensures.value c.in_ok-index.ensures.ok in
    let made = c.in_ok-codes.ensures in
    opened_is file h i c.requires.header index (held_by g.T.Lane.value t c.in_ok-cache.cache) (ap (λ (u : Coded). u.header) made) (ap (λ (u : Coded). u.codes) made)

pub returns-clause-state : goal.returns-clause-state
returns-clause-state g c =
    let t = c.in_ok-codes.codes in
    opens g.T.Lane.value t c.in_ok-cache.cache c.raised.result c.in_ok-cache.ensures.empty c.in_ok-cache.ensures.counts
    ∙ ap (opened (format_of t) (code_at t)) c.raised.ensures.value
    ∙ ap (λ (u : Coded). open_stream u.header t.codes c.args.lines) c.in_ok-codes.ensures
