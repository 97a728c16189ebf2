-- A block that is read where its code stands has the values that the stream says.
use Rattle.std.proofs.Common.{◌≡◌, refl, sym, ap, subst, ◌∙◌, ℕ, zero, suc, ◌+◌, ◌*◌, ◌<◌, ◌≤◌, ℤ, pos, Bool, true, false, List, [], if◌then◌else◌, Ok, Option, Some, None, OnSome, IfNone, map, length, get_or, take, drop, suc-mul, arith}
use Rattle.std.{specs.Int.{Width}}
use Rattle.zf_spec.{specs.Grid.{product, upto, blocks, extent_of, raster, coordinates, is_inside}, specs.Stream.{to_bits}}
use Rattle.zf_spec.{proofs.Counting.{get_or-map-upto}, proofs.Raster.{coordinates-raster, raster_below}}
use Rattle.zf_base.{specs.Places.{block_number, place_of}, proofs.Places.{IsAt-position}, specs.Widths.{width_of}, proofs.Extents.{length-extent_of}}
use Rattle.zf_bits.specs.Reader.{Reader, rest}
use Rattle.zf_header.{specs.declared.header.Header.{Header}, specs.declared.header.Mode.TheVariants.{Rate}, specs.HeaderBits.{header_bits, block_bits}}
use Rattle.zf_parse.{specs.Parsing.{Said, parse, read_code, longest_code, values_of_blocks}, specs.ReadStreams.{ReadsCode, LacksCode}}
use Rattle.zf_parse.proofs.Excerpts.{cut_told}
use Rattle.zf_index.{specs.Spans.{Index, place, len_at, codes_in}, proofs.Places.{place-le, ends_within}, proofs.Read.{read_parts}}
use Rattle.zf_index.specs.Files.{IsIndexOf, found, block_read, len_read, blocks_found}
use Rattle.zf_part.{specs.Blocks.{IsBlockOf, code_place}, specs.Readings.{place_in, AreRight, IsFound}}
use Rattle.zf_part.{specs.declared.places.Places.{Places}, specs.declared.places.Places.TheVariants.{Own, Lent}}

nothing : {A : Type 0} {a : A} → None ≡ Some a → ⊥
nothing e = absurd cc

same_block : {a c : List ℤ} {m n : ℕ} → ◌≡◌ {A = Option (List ℤ × ℕ)} (Some (a, m)) (Some (c, n)) → a ≡ c
same_block {a} {c} {m} {n} e = let pairs : ◌≡◌ {A = List ℤ × ℕ} (a, m) (c, n) = cc in ap (λ (p : List ℤ × ℕ). p.0) pairs

-- the value of a position, among those of blocks
pub value_there : (ns ps : List ℕ) (f : ℕ → List ℤ) (n : ℕ) → n ≡ blocks ns → length ps ≡ length ns → is_inside ns ps ≡ true
    → get_or (values_of_blocks ns (map f (upto n))) (raster ns ps) (pos 0) ≡ get_or (f (block_number ns ps)) (place_of ps) (pos 0)
value_there ns ps f n count long inside =
    let bs = map f (upto n) in
    let Of : List ℕ → ℤ = λ qs. get_or (get_or bs (block_number ns qs) []) (place_of qs) (pos 0) in
    get_or-map-upto (λ k. Of (coordinates ns k)) (product ns) (raster ns ps) (pos 0) (raster_below ns ps long inside)
    ∙ ap Of (coordinates-raster ns ps long inside)
    ∙ ap (λ (block : List ℤ). get_or block (place_of ps) (pos 0)) (get_or-map-upto f n (block_number ns ps) [] (omega (arith, count, (IsAt-position ns ps long inside).block_in_array)))

module _ (bytes : List ℕ) (h : Header) (i : Index) (is : IsIndexOf bytes h i) (b : ℕ) (below : b < blocks h.shape) where
  lt : b < length i.lens
  lt = omega (arith, below, is.count)

  pub within : place i b ≤ length (to_bits bytes)
  within = omega (arith, place-le i b (length i.lens) (omega (arith, lt)), is.within)

  -- a reader of as many bits of the file, from the code on, as the longest code has
  module _ (r : Reader) (m : ℕ) (enough : longest_code h ≤ m) (left : rest r ≡ take m (drop (place i b) (to_bits bytes))) where
    there : read_code (width_of h.ty) h.mode (extent_of h.shape b) (rest r) ≡ Some (block_read (found h i (to_bits bytes) b), len_at i b)
    there =
        ap (λ (t : List Bool). read_code (width_of h.ty) h.mode (extent_of h.shape b) t) left
        ∙ cut_told h (extent_of h.shape b) (drop (place i b) (to_bits bytes)) m (length-extent_of h.shape b) enough
        ∙ read_parts (found h i (to_bits bytes) b) (len_at i b) (is.read b lt)

    pub not_none : (w : Width) → w ≡ width_of h.ty → LacksCode w h.mode (length h.shape) r → ⊥
    not_none w same lacks =
        let lacks_it : LacksCode (width_of h.ty) h.mode (length h.shape) r = subst (λ v. LacksCode v h.mode (length h.shape) r) same lacks in
        nothing (sym (lacks_it.code (extent_of h.shape b) (length-extent_of h.shape b)) ∙ there)

    pub block_is : (w : Width) → w ≡ width_of h.ty → (new : Reader) (block : List ℤ) → ReadsCode w h.mode (length h.shape) r new block → IsBlockOf bytes h b block
    block_is w is_width new block reads_it =
        let reads : ReadsCode (width_of h.ty) h.mode (length h.shape) r new block = subst (λ v. ReadsCode v h.mode (length h.shape) r new block) is_width reads_it in
        let same = same_block (sym (reads.code (extent_of h.shape b) (length-extent_of h.shape b)) ∙ there) in
        let f : ℕ → List ℤ = λ k. block_read (found h i (to_bits bytes) k) in
        record {
          said = record { header = h; codes = codes_in i (to_bits bytes); values = values_of_blocks h.shape (blocks_found h i (to_bits bytes)) };
          parsed = is.said;
          values = λ ps there at.
              ap (λ (vs : List ℤ). get_or vs (place_of ps) (pos 0)) same
              ∙ ap (λ k. get_or (f k) (place_of ps) (pos 0)) (sym at)
              ∙ sym (value_there h.shape ps f (length i.lens) is.count there.dims there.inside);
        }

-- ---- over places that may be right

record Begins (bytes : List ℕ) (h : Header) (b at : ℕ) : Type 0 where
  index : Index
  is : IsIndexOf bytes h index
  at_is : at ≡ place index b

begins : (bytes : List ℕ) (h : Header) (b : ℕ) → b < blocks h.shape → (p : Places) → AreRight bytes h p → Begins bytes h b (place_in p b)
begins bytes h b below (Own index) right = record { index = index; is = right; at_is = refl }
begins bytes h b below (Lent places) right = record { index = right.index; is = right.is; at_is = right.each b below }

-- and what is said
pub right_said : (bytes : List ℕ) (h : Header) (p : Places) → AreRight bytes h p → (said : Said) × (parse bytes ≡ Ok said)
right_said bytes h (Own index) right = (_, right.said)
right_said bytes h (Lent places) right = (_, right.is.said)

module _ (bytes : List ℕ) (h : Header) (b : ℕ) (below : b < blocks h.shape) (p : Places) (at : ℕ) (at_is : at ≡ place_in p b) where
  here : AreRight bytes h p → Begins bytes h b at
  here right = subst (Begins bytes h b) (sym at_is) (begins bytes h b below p right)

  pub right_within : AreRight bytes h p → at ≤ length (to_bits bytes)
  right_within right = let it = here right in omega (arith, it.at_is, within bytes h it.index it.is b below)

  module _ (r : Reader) (m : ℕ) (enough : longest_code h ≤ m) (left : rest r ≡ take m (drop at (to_bits bytes))) (w : Width) (same : w ≡ width_of h.ty) where
    left_there : (right : AreRight bytes h p) → rest r ≡ take m (drop (place (here right).index b) (to_bits bytes))
    left_there right = left ∙ ap (λ k. take m (drop k (to_bits bytes))) (here right).at_is

    -- the block was read, or the places are not right
    pub found_there : (o : Option (Unit {0})) (new : Reader) (block : List ℤ) → OnSome o (ReadsCode w h.mode (length h.shape) r new block) → IfNone o (LacksCode w h.mode (length h.shape) r)
        → IsFound (record { header = h; bytes = bytes; places = p }) o (IsBlockOf bytes h b block)
    found_there None new block reads lacks = record {
      some = tt;
      none = λ right. not_none bytes h (here right).index (here right).is b below r m enough (left_there right) w same lacks;
    }
    found_there (Some done) new block reads lacks = record {
      some = λ right. block_is bytes h (here right).index (here right).is b below r m enough (left_there right) w same new block reads;
      none = tt;
    }

-- ---- at a rate

len_told : (c : Bool) (block : List ℤ) (rate n : ℕ) → len_read (if c then None else Some (block, rate)) ≡ Some n → n ≡ rate
len_told true block rate n e = absurd cc
len_told false block rate n e = cc

module _ (bytes : List ℕ) (h : Header) (i : Index) (is : IsIndexOf bytes h i) (rate : ℕ) (mode : h.mode ≡ Rate rate) where
  pub rate_len : (k : ℕ) → k < length i.lens → len_at i k ≡ rate
  rate_len k lt =
      let t = drop (place i k) (to_bits bytes) in
      let es = extent_of h.shape k in
      len_told _ _ rate (len_at i k) (ap (λ m. len_read (read_code (width_of h.ty) m es t)) (sym mode) ∙ is.read k lt)

  rate_place : (k : ℕ) → k ≤ length i.lens → place i k ≡ i.start + k * rate
  rate_place zero le = omega arith
  rate_place (suc k) le = omega (arith, rate_place k (omega (arith, le)), rate_len k (omega (arith, le)), suc-mul k rate)

  module _ (b : ℕ) (below : b < blocks h.shape) where
    rate_lt : b < length i.lens
    rate_lt = omega (arith, below, is.count)

    pub code_within : place i b + rate ≤ length (to_bits bytes)
    code_within = omega (arith, rate_len b rate_lt, ends_within i b (length i.lens) rate_lt, is.within)

    pub place_is : place i b ≡ code_place h b
    place_is = rate_place b (omega (arith, rate_lt)) ∙ ap (λ s. s + b * rate) is.start ∙ ap (λ r. length (header_bits h) + b * r) (ap block_bits (sym mode))
