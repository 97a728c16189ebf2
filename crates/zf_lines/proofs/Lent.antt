-- What `Lines` are once a run of their values was lent, and once more blocks were written.
use Rattle.std.proofs.Common.{◌≡◌, ℕ, ◌+◌, ◌-◌, ◌*◌, ◌^◌, ◌<◌, ◌≤◌, List, [], ◌∷◌, ◌++◌, map, length, max, take, drop, get_or, replicate, slice_set, Some, None, sym, ap, subst, ◌∙◌, arith, length-take, length-drop, drop-drop, append-nil, rules}
use Rattle.std.proofs.lemmas.List.{drop_all, drop-take, take-take, get_or-take, get_or-drop}
use Rattle.std.specs.List.{refill, length_refill}
use Rattle.zf_lines.{specs.Places.{somes, values, IsHeld, IsRun, IsFilledTo}, specs.Lends.{with_slots, spliced}}
use Rattle.zf_lines.{specs.Rows.{rows, line_at, part, with_line, with_part}, specs.Filled.{IsFilled}, specs.Seen.{Seen, written_to}}
use Rattle.zf_lines.{specs.declared.lines.Lines.TheInside.{Inside}, specs.declared.cells.Cells.{Cells}}
use Rattle.zf_lines.proofs.Blocks.{splice, splice-prefix, length-splice, length-rows, line_at-rows, rows-splice, line_within, rows_before}
use Rattle.zf_lines.proofs.Runs.{front, is_front, somes-map, values-front, length-values, run_of, same_values, spliced_front, held_at, held_value, set_spliced}

-- a part of a block, read from the values that the block begins
part_of_taken : {X : Type 0} (a m n : ℕ) (xs : List X) → a + m ≤ n → take m (drop a (take n xs)) ≡ take m (drop a xs)
part_of_taken a m n xs le =
    let on : n ≡ a + (n - a) = omega arith in
    ap (λ k. take m (drop a (take k xs))) on ∙ ap (take m) (drop-take a (n - a) xs) ∙ take-take m (n - a) (drop a xs) (omega arith)

-- what holds of the fields
abbrev pub Filled : {X : Type 0} → Inside X → Type 0
Filled s = IsFilled s.base s.lines s.written s.len s.cells s.deed s.alloc

-- what they are seen as
abbrev pub seen_as : {X : Type 0} → Inside X → Seen X
seen_as s = record { blocks = rows s.lines s.len (values s.zero.value s.cells.slots); written = s.written }

-- block i of the lines that the fields stand for is written
pub record IsBlock {X : Type 0} (s : Inside X) (self : Seen X) (i : ℕ) : Type 0 where
  pub filled : Filled s
  pub same : seen_as s ≡ self
  pub lt : i < self.written

pub block_of : {X : Type 0} (s : Inside X) {self : Seen X} {i : ℕ} → Filled s → seen_as s ≡ self → i < self.written → IsBlock s self i
block_of s filled same lt = record { filled = filled; same = same; lt = lt }

module _ {X : Type 0} {fields : Inside X} {self : Seen X} {i : ℕ} (b : IsBlock fields self i) where
  open fields use {base, lines, written, len, cells, deed, alloc}

  abbrev zero : X
  zero = fields.zero.value

  h : Filled fields
  h = b.filled

  abbrev xs : List X
  xs = values zero cells.slots

  abbrev ys : List X
  ys = somes cells.slots

  abbrev left : ℕ
  left = length cells.slots - written * len

  long : length xs ≡ lines * len
  long = length-values zero cells.slots ∙ h.size

  xs_are : xs ≡ ys ++ replicate left zero
  xs_are = ap (values zero) h.front.front ∙ values-front zero ys left

  abbrev blocks : List (List X)
  blocks = rows lines len xs

  same : blocks ≡ self.blocks
  same = ap (λ (s : Seen X). s.blocks) b.same

  module _ (from n : ℕ) (within : from + n ≤ written * len) where
    abbrev pub old : List X
    old = take n (drop from xs)

    inside : from + n ≤ length ys
    inside = omega (arith, h.front.held)

    all : from + n ≤ length cells.slots
    all = omega (arith, h.size, rows_before written lines len h.few)

    run_is : take n (drop from cells.slots) ≡ map Some old
    run_is = ap (λ l. take n (drop from l)) h.front.front ∙ run_of zero ys left from n inside ∙ ap (λ l. map Some (take n (drop from (values zero l)))) (sym h.front.front)

    pub run_held : IsRun cells.slots from n
    run_held = (all, (old, run_is))

    pub run_value : (vs : List X) → take n (drop from cells.slots) ≡ map Some vs → vs ≡ old
    run_value vs e = same_values vs old (sym e ∙ run_is)

    count : n ≡ length old
    count = omega (arith, length-take n (drop from xs), length-drop from xs, length-values zero cells.slots, all)

    module _ (w : List X) where
      abbrev ws : List X
      ws = refill n old w

      pub as_long : length ws ≡ n
      as_long = sym (length_refill n old w count)

      abbrev pub now : Cells X
      now = with_slots cells (spliced cells.slots from n (refill n (somes (take n (drop from cells.slots))) w))

      slots_are : now.slots ≡ front (splice from n ws ys) left
      slots_are = (λ i. spliced (h.front.front i) from n (refill n ((ap somes run_is ∙ somes-map old) i) w)) ∙ spliced_front ys ws left from n inside

      pub values_now : values zero now.slots ≡ splice from n ws xs
      values_now =
          ap (values zero) slots_are ∙ values-front zero (splice from n ws ys) left
          ∙ sym (ap (splice from n ws) xs_are ∙ splice-prefix from n ws ys (replicate left zero) inside)

      same_size : length now.slots ≡ length cells.slots
      same_size = sym (length-values zero now.slots) ∙ ap length values_now ∙ length-splice from n ws xs (omega (arith, all, length-values zero cells.slots)) as_long ∙ length-values zero cells.slots

      -- as many lines are written, whatever was written to them
      pub stays_filled : IsFilled base lines written len now deed alloc
      stays_filled = record {
        own = h.own;
        front = is_front now.slots (splice from n ws ys) left (written * len) slots_are (length-splice from n ws ys inside as_long ∙ h.front.held);
        few = h.few;
        size = same_size ∙ h.size;
        small = h.small;
      }

  -- one place is a run of one
  pub place_held : (at : ℕ) → at + 1 ≤ written * len → IsHeld cells.slots at
  place_held at within = subst (λ cs. IsHeld cs at) (sym h.front.front) (held_at ys left at (omega (arith, h.front.held)))

  pub place_now : (at : ℕ) (within : at + 1 ≤ written * len) (v : X) → with_slots cells (slice_set cells.slots at (Some v)) ≡ now at 1 within (v ∷ [])
  place_now at within v = ap (with_slots cells) (set_spliced cells.slots at v (omega (arith, all at 1 within)))

  there : i < written
  there = subst (λ w. i < w) (sym (ap (λ (s : Seen X). s.written) b.same)) b.lt

  line_there : i < lines
  line_there = omega (arith, there, h.few)

  in_lines : i * len + len ≤ lines * len
  in_lines = line_within lines len i line_there

  pub line_ends : i * len + len ≤ written * len
  line_ends = line_within written len i there

  pub line_fits : i * len < 2 ^ 64
  line_fits = omega (arith, in_lines, h.small)

  line_is : line_at blocks i ≡ take len (drop (i * len) xs)
  line_is = line_at-rows lines len xs i line_there

  whole : length (line_at blocks i) ≡ len
  whole = omega (arith, ap length line_is, length-take len (drop (i * len) xs), length-drop (i * len) xs, long, in_lines)

  pub length-line : length (line_at self.blocks i) ≡ len
  length-line = ap (λ ls. length (line_at ls i)) (sym same) ∙ whole

  -- the values that stand for block i
  pub line_value : take len (drop (i * len) xs) ≡ line_at self.blocks i
  line_value = sym line_is ∙ ap (λ ls. line_at ls i) same

  -- the value at a place of block i
  pub value_at : (a : ℕ) (x : X) → a < length (line_at self.blocks i) → get_or cells.slots (i * len + a) None ≡ Some x → get_or (line_at self.blocks i) a x ≡ x
  value_at a x lt e = search (rules, line_value, get_or-take, length-line, get_or-drop, held_value zero)

  -- the same lines but for the blocks
  reblocked : (ls : List (List X)) (f : List (List X) → List (List X)) → ls ≡ f blocks → record (seen_as fields) { blocks = ls } ≡ record self { blocks = f self.blocks }
  reblocked ls f e = ap (λ q. record (seen_as fields) { blocks = q }) e ∙ ap (λ (s : Seen X). record s { blocks = f s.blocks }) b.same

  -- block i written over
  pub line_now : (w : List X) → record (seen_as fields) { blocks = rows lines len (values zero (now (i * len) len line_ends w).slots) } ≡ record self { blocks = with_line self.blocks i w }
  line_now w =
      let ws = refill len (take len (drop (i * len) xs)) w in
      let from : i * len ≡ i * len + 0 = omega arith in
      let none : drop (0 + len) (line_at blocks i) ≡ [] = drop_all (0 + len) (line_at blocks i) (omega (arith, whole)) in
      let set = rows-splice lines len xs i 0 len ws long line_there (omega arith) (as_long (i * len) len line_ends w) in
      reblocked (rows lines len (values zero (now (i * len) len line_ends w).slots)) (λ ls. with_line ls i w) (cc (values_now (i * len) len line_ends w, append-nil ws, line_is, whole))

  module _ (a m : ℕ) (inside : a + m ≤ length (line_at self.blocks i)) where
    pub part_ends : i * len + a + m ≤ written * len
    part_ends = omega (arith, line_ends, length-line)

    pub part_fits : i * len + a < 2 ^ 64
    part_fits = omega (arith, part_ends, h.small, rows_before written lines len h.few)

    abbrev run : List X
    run = take m (drop (i * len + a) xs)

    part_is : part (line_at blocks i) a m ≡ run
    part_is = search (rules, line_is, part_of_taken, length-line, drop-drop)

    pub part_value : run ≡ part (line_at self.blocks i) a m
    part_value = sym part_is ∙ ap (λ ls. part (line_at ls i) a m) same

    -- a part of block i written over
    pub part_now : (w : List X) → record (seen_as fields) { blocks = rows lines len (values zero (now (i * len + a) m part_ends w).slots) } ≡ record self { blocks = with_part self.blocks i a m w }
    part_now w =
        let ws = refill m run w in
        let row = line_at blocks i in
        let size : length (part row a m) ≡ m = omega (arith, length-take m (drop a row), length-drop a row, whole, length-line) in
        let set = rows-splice lines len xs i a m ws long line_there (omega (arith, length-line)) (as_long (i * len + a) m part_ends w) in
        reblocked (rows lines len (values zero (now (i * len + a) m part_ends w).slots)) (λ ls. with_part ls i a m w) (cc (values_now (i * len + a) m part_ends w, drop-drop m a row, part_is))

-- ---- more blocks written

-- what room there is for them
pub record HasRoom {X : Type 0} (s : Inside X) (i : ℕ) : Type 0 where
  pub line : i < s.lines
  pub ends : i * s.len + s.len ≤ length s.cells.slots
  pub small : (i * s.len + s.len < 2 ^ 63) × (i < 2 ^ 16)

pub has_room : {X : Type 0} (s : Inside X) {self : Seen X} {i : ℕ} → Filled s → seen_as s ≡ self → i < length self.blocks → HasRoom s i
has_room s {self} {i} h is lt =
    let there : i < s.lines = omega (arith, lt, ap (λ (q : Seen _). length q.blocks) is, length-rows s.lines s.len (values s.zero.value s.cells.slots)) in
    let within = line_within s.lines s.len i there in
    record { line = there; ends = omega (arith, within, h.size); small = (omega (arith, within, h.small), omega (arith, there, h.small)) }

pub begins_before : (w i n : ℕ) → w ≤ i → w * n ≤ i * n + n
begins_before w i n le = omega (arith, rows_before w i n le)

module _ {X : Type 0} (s : Inside X) (i : ℕ) where
  -- zeros up to block i are seen as before
  pub grown : (z : X) (d : Cells X) (w : ℕ) → z ≡ s.zero.value → IsFilledTo z s.cells.slots d.slots w → s.written ≤ i
      → record { blocks = rows s.lines s.len (values s.zero.value d.slots); written = i + 1 } ≡ written_to (seen_as s) i
  grown z d w is f le =
      let most : i + 1 ≡ max s.written (i + 1) = omega arith in
      λ j. record {
        blocks = rows s.lines s.len ((ap (λ y. values y d.slots) (sym is) ∙ f.same ∙ ap (λ y. values y s.cells.slots) is) j);
        written = most j;
      }

  -- where block i is written, nothing changes
  pub grown_none : i < s.written → seen_as s ≡ written_to (seen_as s) i
  grown_none there =
      let most : s.written ≡ max s.written (i + 1) = omega arith in ap (λ w. record (seen_as s) { written = w }) most
