-- One value more of a window.
use Rattle.std.proofs.Common.{◌≡◌, ◌≢◌, ◌⊎◌, inl, inr, sym, ap, subst, ◌∙◌, ⊎_elim, ℕ, suc, ◌+◌, ◌-◌, ◌*◌, ◌^◌, ◌<◌, ◌≤◌, ℤ, pos, true, List, ◌++◌, Result, Ok, Option, Some, None, map, length, take, drop, get_or, set, get_or-set_other, get_or-set_same, length-drop, take-take, suc-mul, arith}
use borrow.Rule.Slice.PartMut.{put_mid}
use Rattle.std.{proofs.lemmas.Bool.{cases_lt, cases_eq}, proofs.lemmas.List.{length-set, get_or-take, get_or-drop, take-map, drop-map, length-map, map-set, length-take-le, drop_at, take_at, take-append-le, drop-append-le, drop-drop, drop-take}}
use Rattle.std.{proofs.Math.Nat.{mul-le-mul_right}, proofs.Math.Seq.{drop-append-add}}
use Rattle.zf_spec.specs.Grid.{product, blocks, coordinates, raster, is_inside, indices, extent_of}
use Rattle.zf_spec.{specs.Codes.{existing_values}, proofs.Padding.{get_or-existing_inside}}
use Rattle.zf_base.{specs.Places.{IsAt}, proofs.Extents.{length-extent_of}}
use Rattle.zf_base.proofs.Places.{IsAt-inside, IsAt-length, IsAt-block, IsAt-place}
use Rattle.zf_cached.specs.Windows.{Window, mapped}
use Rattle.zf_header.specs.declared.header.Header.{Header}
use Rattle.zf_parse.{specs.Parsing.{Said, parse}, specs.declared.fault.StreamFault.{StreamFault}}
use Rattle.zf_part.specs.Blocks.{IsBlockOf}
use Rattle.zf_part.specs.Windows.{AreThere, AreAllThere, AreHeld, IsWindowOf, line_of}
use Rattle.zf_part.{specs.Readings.{Reading, IsFound}, proofs.Spans.{right_said}}

same_said : (a b : Said) → ◌≡◌ {A = Result Said StreamFault} (Ok a) (Ok b) → a ≡ b
same_said a b e = cc

-- a value of a block, where its place is that of a position
pub value_is : (bytes : List ℕ) (h : Header) (b p : ℕ) (ps : List ℕ) (block : List ℤ) (said : Said) → parse bytes ≡ Ok said → IsAt h.shape ps b p → IsBlockOf bytes h b block
    → get_or block p (pos 0) ≡ get_or said.values (raster h.shape ps) (pos 0)
value_is bytes h b p ps block said parsed at is =
    let ns = h.shape in
    let es = extent_of ns b in
    let inside = IsAt-inside ns ps b p at in
    let long = IsAt-length ns ps b p at in
    let number = IsAt-block ns ps b p at in
    let place = IsAt-place ns ps b p at in
    let dims : length es ≡ length ns = length-extent_of ns b in
    let small : p < 4 ^ length es = omega (arith, at.place_in_block, ap (λ d. 4 ^ d) dims) in
    let exists : is_inside es (indices (length es) p) ≡ true = ap (λ d. is_inside es (indices d p)) dims ∙ at.exists in
    let own : get_or (existing_values es block) p (pos 0) ≡ get_or block p (pos 0) = get_or-existing_inside es block p small exists in
    let said_same : is.said ≡ said = same_said is.said said (sym is.parsed ∙ parsed) in
    sym own ∙ ap (λ q. get_or (existing_values es block) q (pos 0)) place ∙ is.values ps (record { dims = long; inside = inside }) (sym number)
    ∙ ap (λ (s : Said). get_or s.values (raster ns ps) (pos 0)) said_same

-- one value more is there
pub there_more : {X : Type 0} (value : X → ℤ) (h : Header) (w : Window) (said : Said) (out : List X) (i : ℕ) (v : X) → i < length out → AreThere h w said (map value out) i
    → value v ≡ get_or said.values (raster h.shape (mapped w (coordinates w.size i))) (pos 0) → AreThere h w said (map value (set out i v)) (i + 1)
there_more value h w said out i v within before is k lt =
    let put = map-set value out i v in
    ⊎_elim
    (λ less.
    let other : k ≢ i = λ e. absurd (omega (arith, e, less)) in
    ap (λ (l : List ℤ). get_or l k (pos 0)) put ∙ get_or-set_other (map value out) i k (value v) (pos 0) other ∙ before k less)
    (λ more.
    let same : k ≡ i = omega (arith, more, lt) in
    ap (λ (l : List ℤ). get_or l k (pos 0)) put ∙ ap (λ j. get_or (set (map value out) i (value v)) j (pos 0)) same
    ∙ get_or-set_same (map value out) i (value v) (pos 0) (omega (arith, within, length-map out value)) ∙ is
    ∙ ap (λ j. get_or said.values (raster h.shape (mapped w (coordinates w.size j))) (pos 0)) (sym same))
    (cases_lt k i)

-- ---- lines

-- the line that was written, and another one
module _ {X : Type 0} (size j : ℕ) (lines new now : List X) (long : length new ≡ size) (within : j * size + size ≤ length lines) (is : now ≡ take (j * size) lines ++ (new ++ drop (j * size + size) lines)) where
  front : length (take (j * size) lines) ≡ j * size
  front = length-take-le (j * size) lines (omega (arith, within))

  pub line_same : take size (drop (j * size) now) ≡ new
  line_same =
      ap (λ (ls : List X). take size (drop (j * size) ls)) is
      ∙ ap (take size) (drop_at (take (j * size) lines) (new ++ drop (j * size + size) lines) (j * size) front)
      ∙ take_at new (drop (j * size + size) lines) size long

  pub line_other : (l : ℕ) → l ≢ j → take size (drop (l * size) now) ≡ take size (drop (l * size) lines)
  line_other l other = ⊎_elim before behind (cases_lt l j)
    where
      front_part : List X
      front_part = take (j * size) lines

      back : List X
      back = drop (j * size + size) lines

      before : l < j → take size (drop (l * size) now) ≡ take size (drop (l * size) lines)
      before less =
          let m = j * size - l * size in
          let fits : l * size + size ≤ j * size = omega (arith, suc-mul l size, mul-le-mul_right size less) in
          let parts : j * size ≡ l * size + m = omega (arith, fits) in
          let left : size ≤ length (drop (l * size) front_part) = omega (arith, length-drop (l * size) front_part, front, fits) in
          ap (λ (ls : List X). take size (drop (l * size) ls)) is
          ∙ ap (take size) (drop-append-le (l * size) front_part (new ++ back) (omega (arith, front, fits)))
          ∙ take-append-le size (drop (l * size) front_part) (new ++ back) left
          ∙ ap (λ k. take size (drop (l * size) (take k lines))) parts
          ∙ ap (take size) (drop-take (l * size) m lines)
          ∙ take-take size m (drop (l * size) lines) (omega (arith, fits))

      behind : j ≤ l → take size (drop (l * size) now) ≡ take size (drop (l * size) lines)
      behind le =
          let more : j < l = omega (arith, le, other) in
          let fits : j * size + size ≤ l * size = omega (arith, suc-mul j size, mul-le-mul_right size more) in
          let k = l * size - (j * size + size) in
          let first : l * size ≡ length front_part + (size + k) = omega (arith, fits, front) in
          let second : size + k ≡ length new + k = omega (arith, long) in
          let sum : j * size + size + k ≡ l * size = omega (arith, fits) in
          ap (take size)
          (ap (drop (l * size)) is ∙ ap (λ n. drop n (front_part ++ (new ++ back))) first ∙ drop-append-add front_part (new ++ back) (size + k)
          ∙ ap (λ n. drop n (new ++ back)) second ∙ drop-append-add new back k ∙ drop-drop k (j * size + size) lines ∙ ap (λ n. drop n lines) sum)

-- a value of a part of a list
pub get_part : {X : Type 0} (size at p : ℕ) (lines : List X) (d : X) → p < size → get_or (take size (drop at lines)) p d ≡ get_or lines (at + p) d
get_part size at p lines d lt = get_or-take size (drop at lines) p d lt ∙ get_or-drop at lines p d

module _ {X : Type 0} (size j at len : ℕ) (lines new : List X) (at_is : at ≡ j * size) (len_is : len ≡ size) (long : length new ≡ size) (within : j * size + size ≤ length lines) where
  put_is : put_mid at len lines new ≡ take (j * size) lines ++ (new ++ drop (j * size + size) lines)
  put_is = ap (λ a. put_mid a len lines new) at_is ∙ ap (λ n. put_mid (j * size) n lines new) len_is
      ∙ ap (λ rest. take (j * size) lines ++ (new ++ rest)) (drop-drop size (j * size) lines)

  pub put_here : take size (drop (j * size) (put_mid at len lines new)) ≡ new
  put_here = line_same size j lines new (put_mid at len lines new) long within put_is

  pub put_other : (l : ℕ) → l ≢ j → take size (drop (l * size) (put_mid at len lines new)) ≡ take size (drop (l * size) lines)
  put_other l other = line_other size j lines new (put_mid at len lines new) long within put_is l other

-- a line below the last one ends within
pub line_ends : (size j n m : ℕ) → j < n → m ≡ n * size → j * size + size ≤ m
line_ends size j n m lt is = omega (arith, suc-mul j size, mul-le-mul_right {m = suc j} {n = n} size lt)

-- and is a whole one
pub part_long : {X : Type 0} (size j n at len : ℕ) (lines : List X) → at ≡ j * size → len ≡ size → j < n → length lines ≡ n * size → length (take len (drop at lines)) ≡ size
part_long size j n at len lines at_is len_is lt all =
    length-take-le len (drop at lines) (omega (arith, length-drop at lines, at_is, len_is, line_ends size j n (length lines) lt all)) ∙ len_is

-- ---- blocks that are held

module _ {X : Type 0} (value : X → ℤ) (bytes : List ℕ) (h : Header) (lines new : List X) (j n at len : ℕ) (at_is : at ≡ j * 4 ^ length h.shape) (len_is : len ≡ 4 ^ length h.shape) (long : length new ≡ 4 ^ length h.shape)
    (lt : j < n) (all : length lines ≡ n * 4 ^ length h.shape) where
  within : j * 4 ^ length h.shape + 4 ^ length h.shape ≤ length lines
  within = line_ends (4 ^ length h.shape) j n (length lines) lt all

  -- the line that was put holds this block
  pub block_put : (b : ℕ) → IsBlockOf bytes h b (map value new) → IsBlockOf bytes h b (map value (line_of h j (put_mid at len lines new)))
  block_put b is = subst (λ (l : List X). IsBlockOf bytes h b (map value l)) (sym (put_here (4 ^ length h.shape) j at len lines new at_is len_is long within)) is

  -- another one what it held
  pub block_kept : (l b : ℕ) → l ≢ j → IsBlockOf bytes h b (map value (line_of h l lines)) → IsBlockOf bytes h b (map value (line_of h l (put_mid at len lines new)))
  block_kept l b other is = subst (λ (x : List X). IsBlockOf bytes h b (map value x)) (sym (put_other (4 ^ length h.shape) j at len lines new at_is len_is long within l other)) is

  pub held_put : (held : List ℕ) (b : ℕ) → length held ≡ n → IsBlockOf bytes h b (map value new) → AreHeld value bytes h held lines → AreHeld value bytes h (set held j b) (put_mid at len lines new)
  held_put held b count is before l l_lt known = by (cases_eq l j)
    where
      Holds : ℕ → Type 0
      Holds k = IsBlockOf bytes h k (map value (line_of h l (put_mid at len lines new)))

      by : (l ≡ j) ⊎ (l ≡ j → ⊥) → Holds (get_or (set held j b) l 0)
      by (inl same) =
          let here : get_or (set held j b) l 0 ≡ b = ap (λ k. get_or (set held j b) k 0) same ∙ get_or-set_same held j b 0 (omega (arith, count, lt)) in
          subst Holds (sym here) (subst (λ k. IsBlockOf bytes h b (map value (line_of h k (put_mid at len lines new)))) (sym same) (block_put b is))
      by (inr other) =
          let there : get_or (set held j b) l 0 ≡ get_or held l 0 = get_or-set_other held j l b 0 other in
          let old : get_or held l 0 < blocks h.shape = omega (arith, known, there) in
          subst Holds (sym there) (block_kept l (get_or held l 0) other (before l (omega (arith, l_lt, length-set held j b)) old))

  -- the first blocks of a list, and one more
  pub blocks_put : (list : List ℕ) → IsBlockOf bytes h (get_or list j 0) (map value new) → ((k : ℕ) → k < j → IsBlockOf bytes h (get_or list k 0) (map value (line_of h k lines)))
      → (k : ℕ) → k < j + 1 → IsBlockOf bytes h (get_or list k 0) (map value (line_of h k (put_mid at len lines new)))
  blocks_put list is before k k_lt = by (cases_eq k j)
    where
      by : (k ≡ j) ⊎ (k ≡ j → ⊥) → IsBlockOf bytes h (get_or list k 0) (map value (line_of h k (put_mid at len lines new)))
      by (inl same) = subst (λ i. IsBlockOf bytes h (get_or list i 0) (map value (line_of h i (put_mid at len lines new)))) (sym same) (block_put (get_or list j 0) is)
      by (inr other) = block_kept k (get_or list k 0) other (before k (omega (arith, k_lt, other)))

-- a line of the values of a list
pub value_line : {X : Type 0} (value : X → ℤ) (size k : ℕ) (lines : List X) → map value (take size (drop (k * size) lines)) ≡ take size (drop (k * size) (map value lines))
value_line value size k lines = sym (take-map value size (drop (k * size) lines)) ∙ ap (take size) (sym (drop-map value (k * size) lines))

-- the window, where the places are right and the stream is good therefore
pub window_is : (r : Reading) (w : Window) (found : List ℤ) (o : Option (Unit {0})) → length found ≡ product w.size → IsFound r o (AreAllThere r.bytes r.header w found) → IsFound r o (IsWindowOf r.bytes r.header w found)
window_is r w found None count is = record { some = tt; none = is.none }
window_is r w found (Some done) count is = record {
  some = λ right.
      let said = right_said r.bytes r.header r.places right in
      record { said = said.0; parsed = said.1; count = count; there = is.some right said.0 said.1 };
  none = tt;
}
