-- The values that a stream says are those that its codes mean.
use Rattle.std.proofs.Common.{◌≡◌, refl, sym, ap, subst, ◌∙◌, ℕ, zero, suc, ◌+◌, ◌<◌, ℤ, pos, Bool, Ok, List, [], ◌∷◌, ◌++◌, map, length, get_or, arith}
use Rattle.std.proofs.lemmas.List.{length-map, take_at}
use Rattle.zf_spec.{specs.Grid.{blocks, upto, raster}, proofs.Counting.{from_places}}
use Rattle.zf_base.{specs.declared.position.Pos.{Pos}, specs.Positions.{used_axes, IsPosition}}
use Rattle.zf_base.{specs.Places.{block_number, place_of}, specs.Formats.{meant}}
use Rattle.zf_base.proofs.Extents.{length-used_axes}
use Rattle.zf_header.{specs.declared.header.Header.{Header}, specs.HeaderBits.{IsHeader}, proofs.Good.{good}}
use Rattle.zf_header.proofs.Found.{read_is_header}
use Rattle.zf_cached.{specs.Changes.{opened}, specs.Arrays.{array_format}}
use Rattle.zf_parse.specs.Parsing.{Said, parse, header_of, code_bits, values_of_blocks}
use Rattle.zf_parse.{proofs.Whole.{Stand, read_whole}, proofs.Parts.{parts_of}}
use Rattle.zf_const.{specs.Standing.{coding_of, code_of, open_stream}, proofs.Meaning.{meant-read}}
use Rattle.zf_const.proofs.Values.{value_there}

-- each block is what its code means
stand_meant : (h : Header) (b : ℕ) (cs : List (List Bool × List ℤ)) (none : List Bool) (k : ℕ) → Stand h b cs → k < length cs
    → meant (array_format (coding_of h) h.shape) (b + k) (get_or (map (λ c. c.0) cs) k none) ≡ get_or (map (λ c. c.1) cs) k []
stand_meant h b [] none k stand lt = absurd (omega arith)
stand_meant h b (c ∷ cs) none zero stand lt =
    let at : b + 0 ≡ b = omega arith in
    ap (λ j. meant (array_format (coding_of h) h.shape) j c.0) at
    ∙ ap (λ (u : List Bool). meant (array_format (coding_of h) h.shape) b u) (sym (take_at c.0 [] (length c.0) refl))
    ∙ meant-read h b (c.0 ++ []) c.1 (length c.0) (stand.0 [])
stand_meant h b (c ∷ cs) none (suc k) stand lt =
    let at : b + suc k ≡ suc b + k = omega arith in
    ap (λ j. meant (array_format (coding_of h) h.shape) j (get_or (map (λ d. d.0) cs) k none)) at ∙ stand_meant h (suc b) cs none k stand.1 (omega arith)

-- the block of number b that these codes mean
abbrev block_meant : Header → List (List Bool) → ℕ → List ℤ
block_meant h cs b = meant (array_format (coding_of h) h.shape) b (code_of h cs b)

blocks_meant : (h : Header) (n : ℕ) (cs : List (List Bool × List ℤ)) → Stand h 0 cs → length cs ≡ n → map (block_meant h (map (λ c. c.0) cs)) (upto n) ≡ map (λ c. c.1) cs
blocks_meant h n cs stand count =
    from_places (block_meant h (map (λ c. c.0) cs)) n [] (map (λ c. c.1) cs) (length-map cs (λ c. c.1) ∙ count)
    (λ k lt.
    let at : 0 + k ≡ k = omega arith in
    sym (stand_meant h 0 cs (coding_of h).zero k stand (omega (arith, lt, count))) ∙ ap (λ j. meant (array_format (coding_of h) h.shape) j (get_or (map (λ c. c.0) cs) k (coding_of h).zero)) at)

-- what holds of what is said
record Meant (it : Said) : Type 0 where
  header : IsHeader it.header
  count : length it.codes ≡ blocks it.header.shape
  values : it.values ≡ values_of_blocks it.header.shape (map (block_meant it.header it.codes) (upto (blocks it.header.shape)))

said_meant : (bytes : List ℕ) (it : Said) → parse bytes ≡ Ok it → Meant it
said_meant bytes it e =
    let h = header_of bytes in
    let n = blocks h.shape in
    let parts = parts_of bytes it e in
    let whole = read_whole h 0 n (code_bits bytes) parts.found parts.read in
    subst (λ (t : Said). Meant t) parts.is
    (record {
      header = read_is_header bytes (good bytes (sym parts.good));
      count = length-map parts.found.0 (λ c. c.0) ∙ whole.count;
      values = ap (values_of_blocks h.shape) (sym (blocks_meant h n parts.found.0 whole.stand whole.count));
    })

pub codes_counted : (bytes : List ℕ) (it : Said) → parse bytes ≡ Ok it → length it.codes ≡ blocks it.header.shape
codes_counted bytes it e = (said_meant bytes it e).count

pub values_meant : (bytes : List ℕ) (it : Said) (lines : ℕ) → parse bytes ≡ Ok it
    → it.values ≡ values_of_blocks it.header.shape (map (open_stream it.header it.codes lines).values (upto (blocks it.header.shape)))
unfolding opened
values_meant bytes it lines e = (said_meant bytes it e).values

pub value_meant : (bytes : List ℕ) (it : Said) (lines : ℕ) (p : Pos) → parse bytes ≡ Ok it → IsPosition it.header.shape p
    → let ns = it.header.shape in
    let ps = used_axes (length ns) p in
    get_or ((open_stream it.header it.codes lines).values (block_number ns ps)) (place_of ps) (pos 0) ≡ get_or it.values (raster ns ps) (pos 0)
value_meant bytes it lines p e at =
    let ns = it.header.shape in
    let ps = used_axes (length ns) p in
    let is = said_meant bytes it e in
    sym (value_there ns ps (open_stream it.header it.codes lines).values (length-used_axes (length ns) p is.header.shape.four_at_most) at.inside)
    ∙ ap (λ (vs : List ℤ). get_or vs (raster ns ps) (pos 0)) (sym (values_meant bytes it lines e))
