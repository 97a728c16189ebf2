-- What is written through a loan of a part of a block.
use Rattle.std.proofs.Common.{◌≡◌, ◌⊎◌, inl, inr, refl, sym, ap, subst, ◌∙◌, ℕ, ◌+◌, ◌-◌, ◌^◌, ◌<◌, ◌≤◌, ℤ, pos, cond, Bool, true, false, Some, List, [], ◌∷◌, ◌++◌, map, length, get_or, set, take, drop, append_assoc, length-append, length-drop, drop-cons, take_at, drop_at, arith, rules}
use Rattle.std.{specs.Int.{Width}, proofs.lemmas.Bool.{cases_lt, cases_Bool, eqb-true, false≢true}}
use Rattle.std.proofs.lemmas.List.{length-map, map-append, take-map, drop-map, length-take-le, take-append-drop, drop-drop, get_or-take, get_or-drop, get_or_append_left, get_or-append_right, drop_all, append-nil, set_split}
use Rattle.std.proofs.Math.Seq.{take-add}
use Rattle.zf_spec.specs.Grid.{blocks}
use Rattle.zf_spec.proofs.Counting.{map-get_or-upto, map-upto_same}
use Rattle.zf_base.{specs.Formats.{Format, existing_of}, specs.declared.position.Pos.{Pos}}
use Rattle.zf_base.proofs.Formats.{existing_of_same, length-existing_of, get_or-existing_of, get_or-existing_of_exists, existing_of-existing_of, with_at-other}
use Rattle.zf_header.specs.declared.header.Header.{Header}
use Rattle.zf_cached.{specs.State.{State}, specs.Touch.{touch_for_writing, with_values}}
use Rattle.zf_lines.{specs.Rows.{line_at, part, over, over_part}, proofs.Sizes.{length-over}}
use Rattle.zf_lines.specs.Rows as rows
use Rattle.zf_cache.specs.Kept.{Kept, HasRow, IsDirty, tag_at, block_in, line_of, dirty_tag}
use Rattle.zf_cache.{specs.Standing.{state_of, state_at}, specs.Loans.{StandsFor}, proofs.Sound.{values_here}}
use Rattle.zf_cache.{proofs.Steps.{part_written}, proofs.Tags.{named, names-dirty}}
use Rattle.zf_store.{specs.Stored.{Stored, code_at, format_of}, proofs.Kept.{block_len_is}}
use Rattle.zf_array.{specs.Standing.{Held, format, state, array_of}, specs.Parts.{held_by, IsJoined}}
use Rattle.zf_array.specs.Loans.{spliced, with_part, with_block, with_value}
use Rattle.zf_array.proofs.Standing.{IsBounded, state_array, bounded_of, in_array, state_now, format_now, header_now}

-- ---- values with others in the place of some

module _ (xs : List ℤ) (a n : ℕ) (ys : List ℤ) (long : length ys ≡ n) (within : a + n ≤ length xs) where
  prefix_long : length (take a xs) ≡ a
  prefix_long = length-take-le a xs (omega arith)

  both_long : length (take a xs ++ ys) ≡ a + n
  both_long = omega (arith, length-append (take a xs) ys, prefix_long)

  before : (p : ℕ) → p < a → get_or (spliced xs a n ys) p (pos 0) ≡ get_or xs p (pos 0)
  before p h = search (rules, get_or_append_left, both_long, prefix_long, get_or-take)

  between : (p : ℕ) → a ≤ p → p < a + n → get_or (spliced xs a n ys) p (pos 0) ≡ get_or ys (p - a) (pos 0)
  between p h k = search (rules, get_or_append_left, both_long, get_or-append_right, prefix_long)

  behind : (p : ℕ) → a + n ≤ p → get_or (spliced xs a n ys) p (pos 0) ≡ get_or xs p (pos 0)
  behind p h = search (rules, get_or-append_right, both_long, get_or-drop)

-- it is the same at a place where the values are
spliced_same : (xs vs ys : List ℤ) (a n p : ℕ) → length ys ≡ n → a + n ≤ length xs → length vs ≡ length xs → get_or xs p (pos 0) ≡ get_or vs p (pos 0)
    → get_or (spliced xs a n ys) p (pos 0) ≡ get_or (spliced vs a n ys) p (pos 0)
spliced_same xs vs ys a n p long within size same = search (rules, cases_lt, before, long, same, between, behind)

-- the part that is there
spliced_part : (xs : List ℤ) (a n : ℕ) → spliced xs a n (take n (drop a xs)) ≡ xs
spliced_part xs a n = ap (λ (ys : List ℤ). ys ++ drop (a + n) xs) (sym (take-add a n xs)) ∙ take-append-drop (a + n) xs

pub part_spliced : (xs : List ℤ) (a n : ℕ) (ys : List ℤ) → length ys ≡ n → a + n ≤ length xs → take n (drop a (spliced xs a n ys)) ≡ ys
part_spliced xs a n ys long within = search (rules, append_assoc, drop_at, prefix_long, take_at)

-- values of a block with others in the place of some that exist
module _ (f : Format (List Bool)) (b : ℕ) (vs : List ℤ) (a n : ℕ) (ys : List ℤ) (whole : existing_of f b vs ≡ vs) (long : length ys ≡ n) (within : a + n ≤ f.block_len)
    (exist : (j : ℕ) → j < n → f.exists b (a + j) ≡ true) where
  abbrev new : List ℤ
  new = spliced vs a n ys

  size : length vs ≡ f.block_len
  size = sym (ap length whole) ∙ length-existing_of f b vs

  inside : a + n ≤ length vs
  inside = omega (arith, size)

  length-new : length new ≡ length vs
  length-new = omega (arith, length-append (take a vs ++ ys) (drop (a + n) vs), both_long vs a n ys long inside, length-drop (a + n) vs, inside)

  none_outside : (p : ℕ) → p < f.block_len → f.exists b p ≡ false → get_or vs p (pos 0) ≡ pos 0
  none_outside p lt none = ap (λ (xs : List ℤ). get_or xs p (pos 0)) (sym whole) ∙ get_or-existing_of f b vs p lt ∙ ap (λ (t : Bool). cond t (get_or vs p (pos 0)) (pos 0)) none

  none_there : (p : ℕ) → p < f.block_len → f.exists b p ≡ false → (p < a) ⊎ (a ≤ p) → (p < a + n) ⊎ (a + n ≤ p) → get_or new p (pos 0) ≡ pos 0
  none_there p lt none (inl h) k = before vs a n ys long inside p h ∙ none_outside p lt none
  none_there p lt none (inr h) (inl k) =
      let on : a + (p - a) ≡ p = omega arith in search (rules, false≢true)
  none_there p lt none (inr h) (inr k) = behind vs a n ys long inside p k ∙ none_outside p lt none

  same_there : (p : ℕ) → p < f.block_len → cond (f.exists b p) (get_or new p (pos 0)) (pos 0) ≡ get_or new p (pos 0)
  same_there p lt = search (rules, cases_Bool, none_there, cases_lt)

  pub spliced_exists : existing_of f b (spliced vs a n ys) ≡ spliced vs a n ys
  unfolding existing_of
  spliced_exists =
      map-upto_same (λ p. cond (f.exists b p) (get_or new p (pos 0)) (pos 0)) (λ p. get_or new p (pos 0)) f.block_len same_there
      ∙ map-get_or-upto new f.block_len (pos 0) (length-new ∙ size)

module _ {X : Type 0} (value : X → ℤ) (f : Format (List Bool)) (b : ℕ) (row : List X) (a n : ℕ) (whole : length row ≡ f.block_len) (within : a + n ≤ f.block_len) where
  row_long : length (map value row) ≡ f.block_len
  row_long = length-map row value ∙ whole

  pub spliced_exist : (ys : List ℤ) → length ys ≡ n → existing_of f b (spliced (map value row) a n ys) ≡ existing_of f b (spliced (existing_of f b (map value row)) a n ys)
  spliced_exist ys long = search (rules, existing_of_same, spliced_same, long, row_long, length-existing_of, get_or-existing_of_exists)

  part_long : length (part row a n) ≡ n
  part_long = length-take-le n (drop a row) (omega (arith, length-drop a row))

  -- the row that is written is the block spliced
  pub over_is : (ws : List X) → existing_of f b (map value (over_part row a n ws)) ≡ existing_of f b (spliced (existing_of f b (map value row)) a n (map value (over (part row a n) ws)))
  over_is ws =
      let ys = map value (over (part row a n) ws) in
      let long : length ys ≡ n = length-map (over (part row a n) ws) value ∙ length-over (part row a n) ws ∙ part_long in
      let made : map value (over_part row a n ws) ≡ spliced (map value row) a n ys = simp (map-append, append_assoc, take-map, drop-map, drop-drop) in
      ap (existing_of f b) made ∙ spliced_exist ys long

  -- the part that is lent has the block's values
  pub part_is : existing_of f b (spliced (existing_of f b (map value row)) a n (map value (part row a n))) ≡ existing_of f b (map value row)
  part_is =
      let long : length (map value (part row a n)) ≡ n = length-map (part row a n) value ∙ part_long in
      cc (take-map value n (drop a row), drop-map value a row, spliced_exist (map value (part row a n)) long, spliced_part (map value row) a n)

-- one value is a part of one
one_part : {X : Type 0} (xs : List X) (p : ℕ) (x : X) → p < length xs → get_or xs p x ≡ x → x ∷ [] ≡ part xs p 1
one_part xs p x inside e = sym (ap (take 1) (drop-cons xs p x inside) ∙ ap (λ y. y ∷ []) e)

pub bounded_values : (h : Header) (s : State (List Bool)) (b : ℕ) (values : List ℤ) → b < blocks h.shape → IsBounded h s → IsBounded h (with_values s b values)
unfolding with_values array_of
bounded_values h s b values below bounded = search (rules, with_at-other)

module _ {X : Type 0} (value : X → ℤ) (w : Width) (d : ℕ) (s : Stored) (c : Kept X) (room : ℕ) (joined : IsJoined value w d s c room) (now : Held) (is : held_by value s c ≡ now) where
  pub tag_is : (b : ℕ) → (state now).dirty b ≡ true → IsDirty c b
  unfolding state_at
  tag_is b dirty = eqb-true (tag_at c.tags (line_of c b)) (dirty_tag b) (sym (ap (λ (u : State (List Bool)). u.dirty b) (state_now value w d s c room joined now is)) ∙ dirty)

  module _ (b a n : ℕ) (dirty : (state now).dirty b ≡ true) (within : a + n ≤ 4 ^ d) (size : HasRow c b (4 ^ d)) where
    names_b : block_in (tag_at c.tags (line_of c b)) ≡ Some b
    names_b = ap block_in (tag_is b dirty) ∙ names-dirty b

    row_whole : length (line_at c.lines (line_of c b)) ≡ (format_of s).block_len
    row_whole = size.size.1 (line_of c b) size.there ∙ ap (λ k. 4 ^ k) (sym joined.dims) ∙ sym (block_len_is s)

    row_within : a + n ≤ (format_of s).block_len
    row_within = subst (λ k. a + n ≤ k) (ap (λ k. 4 ^ k) (sym joined.dims) ∙ sym (block_len_is s)) within

    values_are : (state now).values b ≡ existing_of (format_of s) b (map value (line_at c.lines (line_of c b)))
    values_are =
        ap (λ (u : State (List Bool)). u.values b) (state_now value w d s c room joined now is)
        ∙ values_here value (format_of s) c (code_at s) b (line_of c b) refl (named (tag_at c.tags (line_of c b)) b names_b)

    written : (ws : List X) → StandsFor value (record c { lines = rows.with_part c.lines (line_of c b) a n ws }) (format_of s) (code_at s)
        (with_values (state_of value c (format_of s) (code_at s)) b (existing_of (format_of s) b (map value (over_part (line_at c.lines (line_of c b)) a n ws))))
    written ws = part_written value (format_of s) (code_at s) c b a n ws joined.fits (tag_is b dirty) size.there

    -- the fields stay joined, whatever is written
    pub joined_lent : (ws : List X) → IsJoined value w d s (record c { lines = rows.with_part c.lines (line_of c b) a n ws }) room
    joined_lent ws = let fits = (written ws).fits in search rules

    module _ (r : List X) (is_r : r ≡ part (line_at c.lines (line_of c b)) a n) where
      pub ends_as : (ws : List X) → held_by value s (record c { lines = rows.with_part c.lines (line_of c b) a n ws }) ≡ with_part now b a n (map value (over r ws))
      ends_as ws =
          let over_row = over_is value (format_of s) b (line_at c.lines (line_of c b)) a n row_whole row_within ws in
          let h = header_now value w d s c room joined now is in
          let u = state_now value w d s c room joined now is in
          let f = format_now value w d s c room joined now is in cc ((written ws).state, values_are)

      pub shown : existing_of (format now) b (spliced ((state now).values b) a n (map value r)) ≡ (state now).values b
      shown =
          cc (format_now value w d s c room joined now is, values_are, part_is value (format_of s) b (line_at c.lines (line_of c b)) a n row_whole row_within)

      pub long : length r ≡ n
      long = ap length is_r ∙ part_long value (format_of s) b (line_at c.lines (line_of c b)) a n row_whole row_within

    -- one value that is lent is a part of one
    pub part_of_one : n ≡ 1 → (x : X) → get_or (line_at c.lines (line_of c b)) a x ≡ x → x ∷ [] ≡ part (line_at c.lines (line_of c b)) a n
    part_of_one one x e = one_part (line_at c.lines (line_of c b)) a x (omega (arith, row_whole, row_within)) e ∙ ap (part (line_at c.lines (line_of c b)) a) (sym one)

    -- the state of the array with other values there
    pub state_spliced : (vs : List ℤ) → state (with_part now b a n vs) ≡ with_values (state now) b (existing_of (format now) b (spliced ((state now).values b) a n vs))
    state_spliced vs =
        let below : b < blocks now.header.shape = subst (λ (h : Header). b < blocks h.shape) (sym (header_now value w d s c room joined now is)) (in_array value s c joined.count joined.fits (line_of c b) b names_b) in
        let bounded = subst (λ (h : Header). IsBounded h (state now)) (sym (header_now value w d s c room joined now is)) (subst (λ (u : State (List Bool)). IsBounded s.header u) (sym (state_now value w d s c room joined now is)) (bounded_of value s c joined.count joined.fits)) in
        state_array now.header (with_values (state now) b _) (bounded_values now.header (state now) b _ below bounded)

pub header_block : (now : Held) (b : ℕ) (vs : List ℤ) → (with_block now b vs).header ≡ now.header
unfolding array_of
header_block now b vs = refl

-- all values are replaced
pub spliced_all : (xs ys : List ℤ) (n : ℕ) → length xs ≤ n → spliced xs 0 n ys ≡ ys
spliced_all xs ys n all = search (rules, drop_all, append-nil)

pub header_spliced : (now : Held) (b a n : ℕ) (vs : List ℤ) → (with_part now b a n vs).header ≡ now.header
unfolding array_of
header_spliced now b a n vs = refl

-- ---- values that are lent after a touch for writing

-- another value in the place of one
spliced_one : (vs : List ℤ) (p : ℕ) (v : ℤ) → p < length vs → spliced vs p 1 (v ∷ []) ≡ set vs p v
spliced_one vs p v inside = search (rules, append_assoc, set_split)

-- the array a is the array now with block b touched for writing, and its n values from place p on are ys
module _ (now a : Held) (b p n : ℕ) (ys : List ℤ) (head : a.header ≡ now.header) (is : state a ≡ touch_for_writing (format now) (state now) b) (long : length ys ≡ n)
    (shows : existing_of (format a) b (spliced ((state a).values b) p n ys) ≡ (state a).values b) (within : p + n ≤ (format now).block_len)
    (exist : (j : ℕ) → j < n → (format now).exists b (p + j) ≡ true) where
  abbrev u : State (List Bool)
  u = touch_for_writing (format now) (state now) b

  same : format a ≡ format now
  same = ap (λ (h : Header). format_of (record { header = h; codes = a.codes })) head

  shows_there : existing_of (format now) b (spliced (u.values b) p n ys) ≡ u.values b
  shows_there = (λ i. existing_of (sym same i) b (spliced ((sym is i).values b) p n ys)) ∙ shows ∙ ap (λ (t : State (List Bool)). t.values b) is

  pub inside_there : p + n ≤ length (u.values b)
  inside_there = omega (arith, ap length shows_there, length-existing_of (format now) b (spliced (u.values b) p n ys), within)

  exists_there : (vs : List ℤ) → length vs ≡ n → existing_of (format now) b (spliced (u.values b) p n vs) ≡ spliced (u.values b) p n vs
  exists_there vs size = search (rules, shows_there, existing_of-existing_of, spliced_exists, size)

  -- they are the values that are there
  pub found_there : ys ≡ take n (drop p (u.values b))
  found_there = sym (part_spliced (u.values b) p n ys long inside_there) ∙ ap (λ (xs : List ℤ). take n (drop p xs)) (sym (exists_there ys long) ∙ shows_there)

  -- and others may be written over them
  written_there : (vs : List ℤ) → length vs ≡ n → with_values (state a) b (existing_of (format a) b (spliced ((state a).values b) p n vs)) ≡ with_values u b (spliced (u.values b) p n vs)
  written_there vs size = (λ i. with_values (is i) b (existing_of (same i) b (spliced ((is i).values b) p n vs))) ∙ ap (with_values u b) (exists_there vs size)

  pub ends_there : (vs : List ℤ) → length vs ≡ n → with_part a b p n vs ≡ array_of now.header (with_values u b (spliced (u.values b) p n vs))
  ends_there vs size = (λ i. array_of (head i) (written_there vs size i))

  pub state_there : (vs : List ℤ) → length vs ≡ n → state (with_part a b p n vs) ≡ with_values (state a) b (existing_of (format a) b (spliced ((state a).values b) p n vs))
      → state (array_of now.header (with_values u b (spliced (u.values b) p n vs))) ≡ with_values u b (spliced (u.values b) p n vs)
  state_there vs size e = ap state (sym (ends_there vs size)) ∙ e ∙ written_there vs size

-- the same of one value
module _ (now a : Held) (b p : ℕ) (y : ℤ) (head : a.header ≡ now.header) (is : state a ≡ touch_for_writing (format now) (state now) b)
    (shows : existing_of (format a) b (spliced ((state a).values b) p 1 (y ∷ [])) ≡ (state a).values b) (lt : p < (format now).block_len) (exists : (format now).exists b p ≡ true) where
  abbrev t : State (List Bool)
  t = touch_for_writing (format now) (state now) b

  one_within : p + 1 ≤ (format now).block_len
  one_within = omega (arith, lt)

  one_exists : (j : ℕ) → j < 1 → (format now).exists b (p + j) ≡ true
  one_exists j small = let e : p ≡ p + j = omega (arith, small) in subst (λ k. (format now).exists b k ≡ true) e exists

  one_inside : p < length (t.values b)
  one_inside = omega (arith, inside_there now a b p 1 (y ∷ []) head is refl shows one_within one_exists)

  pub value_there : y ≡ get_or (t.values b) p (pos 0)
  value_there =
      let e = found_there now a b p 1 (y ∷ []) head is refl shows one_within one_exists ∙ ap (take 1) (drop-cons (t.values b) p (pos 0) one_inside) in cc

  set_there : (v : ℤ) → with_values t b (spliced (t.values b) p 1 (v ∷ [])) ≡ with_values t b (set (t.values b) p v)
  set_there v = ap (with_values t b) (spliced_one (t.values b) p v one_inside)

  pub value_ends : (v : ℤ) → with_part a b p 1 (v ∷ []) ≡ array_of now.header (with_values t b (set (t.values b) p v))
  value_ends v = ends_there now a b p 1 (y ∷ []) head is refl shows one_within one_exists (v ∷ []) refl ∙ ap (array_of now.header) (set_there v)

  pub value_state : (v : ℤ) → state (with_part a b p 1 (v ∷ [])) ≡ with_values (state a) b (existing_of (format a) b (spliced ((state a).values b) p 1 (v ∷ [])))
      → state (array_of now.header (with_values t b (set (t.values b) p v))) ≡ with_values t b (set (t.values b) p v)
  value_state v e =
      ap (λ x. state (array_of now.header x)) (sym (set_there v)) ∙ state_there now a b p 1 (y ∷ []) head is refl shows one_within one_exists (v ∷ []) refl e ∙ set_there v

pub header_value : (now : Held) (q : Pos) (v : ℤ) → (with_value now q v).header ≡ now.header
unfolding array_of
header_value now q v = refl
