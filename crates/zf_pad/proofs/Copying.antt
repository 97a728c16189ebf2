-- Gathers and scatters, run by run.
use Rattle.std.proofs.Common.{rules, ◌≡◌, ℕ, zero, suc, ◌+◌, ◌-◌, ◌*◌, ◌/◌, ◌%◌, ◌^◌, ◌<◌, ◌≤◌, Bool, true}
use Rattle.std.proofs.Common.{false, lt-ltb, ℤ, pos, List, [], ◌∷◌, length, map, get_or, set}
use Rattle.std.proofs.Common.{get_or-set_same, get_or-set_other, length-set, take, drop, ◌++◌, refl, ap}
use Rattle.std.proofs.Common.{sym, subst, ◌∙◌, ⊎_elim, ◌⊎◌, inl, inr, arith, pow-suc}
use Rattle.std.{proofs.Math.Nat.{mul-add, mul-le-mul_left, pow-le-pow_right}, proofs.lemmas.Bool.{cases_lt}}
use Rattle.std.proofs.lemmas.List.{length-map, map-set, set_split}
use Rattle.zf_spec.specs.Grid.{is_inside}
use Rattle.zf_base.{specs.declared.position.Pos.{Pos}, specs.declared.position.Extent.{Extent}}
use Rattle.zf_base.{specs.Positions.{axes, IsExtent}, proofs.Values.{number_at}}
use Rattle.zf_pad.{specs.declared.layout.Layout.{Layout}, specs.Copies.{IsGathered, IsScattered, IsCopied, IsRunCopied}}
use Rattle.zf_pad.specs.Layouts.{HasPlace, place_indices, place_at, moved, index_of, block_layout, HasWholeRows, IsOneToOne, CanCopy, CanCopyRuns}
use Rattle.zf_pad.proofs.Writes.{IsWritten, written_none, written_skip_all, written_row}
use Rattle.zf_pad.proofs.Existing.{place_below, first_place, first_index}

-- whether a place of a block exists
abbrev pub exists : Extent → ℕ → Bool
exists e p = is_inside (axes e.size) (axes (place_indices p))

-- a place's indices tell whether it exists
pub exists_here : (e : Extent) (n : ℕ) (at : Pos) (b t : Bool) → at ≡ place_indices n → b ≡ is_inside (axes e.size) (axes at) → b ≡ t → exists e n ≡ t
exists_here e n at b t is test was = ap (λ p. is_inside (axes e.size) (axes p)) (sym is) ∙ sym test ∙ was

-- the places of a block are where its layout puts their indices
pub place_itself : (p : ℕ) → p < 256 → place_at block_layout p ≡ p
unfolding place_indices index_of block_layout
place_itself p small = omega arith

-- ---- a row of four places

-- whether a place exists, by its index along x and its row; and its index in a layout
exists_at : Extent → ℕ → ℕ → Bool
exists_at e i r = is_inside (axes e.size) (i ∷ r % 4 ∷ r / 4 % 4 ∷ r / 4 / 4 % 4 ∷ [])

index_in_row : Layout → ℕ → ℕ → ℕ
index_in_row layout i r = index_of layout (record { x = i; y = r % 4; z = r / 4 % 4; w = r / 4 / 4 % 4 })

first_of_row : (r k : ℕ) → k < 4 → (4 * r + k) % 4 ≡ k
first_of_row r k small = omega arith

row_of_place : (r k : ℕ) → k < 4 → (4 * r + k) / 4 ≡ r
row_of_place r k small = omega arith

exists_by_row : (e : Extent) (r k : ℕ) → k < 4 → exists e (4 * r + k) ≡ exists_at e k r
unfolding place_indices exists_at
exists_by_row e r k small = ap (λ i. exists_at e i ((4 * r + k) / 4)) (first_of_row r k small) ∙ ap (exists_at e k) (row_of_place r k small)

index_by_row : (layout : Layout) (r k : ℕ) → k < 4 → place_at layout (4 * r + k) ≡ index_in_row layout k r
unfolding place_indices index_in_row
index_by_row layout r k small = ap (λ i. index_in_row layout i ((4 * r + k) / 4)) (first_of_row r k small) ∙ ap (index_in_row layout k) (row_of_place r k small)

-- of a whole row all places exist, or none
same_in_row : (e : Extent) (r k : ℕ) → k < 4 → e.size.x ≡ 4 → exists_at e k r ≡ exists_at e 0 r
unfolding exists_at
same_in_row e r k small four = search (rules, lt-ltb)

row_exists : (e : Extent) (r k : ℕ) (t : Bool) → k < 4 → e.size.x ≡ 4 → exists e (4 * r) ≡ t → exists e (4 * r + k) ≡ t
row_exists e r k t small four was =
    exists_by_row e r k small ∙ same_in_row e r k small four ∙ sym (exists_by_row e r 0 (omega arith)) ∙ ap (exists e) (omega arith) ∙ was

-- and they stand beside one another
beside : (layout : Layout) (r k : ℕ) → layout.step.x ≡ 1 → index_in_row layout k r ≡ index_in_row layout 0 r + k
unfolding index_in_row index_of
beside layout r k one = search rules

row_index : (layout : Layout) (r k : ℕ) → k < 4 → layout.step.x ≡ 1 → place_at layout (4 * r + k) ≡ place_at layout (4 * r) + k
row_index layout r k small one =
    index_by_row layout r k small ∙ beside layout r k one ∙ ap (λ i. i + k) (sym (index_by_row layout r 0 (omega arith)) ∙ ap (place_at layout) (omega arith))

-- ---- a slice of four rows: each begins as far behind the one before

index_in_slice : Layout → ℕ → ℕ → ℕ
index_in_slice layout y s = index_of layout (record { x = 0; y = y; z = s % 4; w = s / 4 % 4 })

index_by_slice : (layout : Layout) (s y : ℕ) → y < 4 → index_in_row layout 0 (4 * s + y) ≡ index_in_slice layout y s
unfolding index_in_row index_in_slice
index_by_slice layout s y small = search (rules, first_of_row, row_of_place)

behind_first : (layout : Layout) (s y : ℕ) → index_in_slice layout y s ≡ index_in_slice layout 0 s + y * layout.step.y
unfolding index_in_slice index_of
behind_first layout s y = omega arith

pub slice_index : (layout : Layout) (s y : ℕ) → y < 4 → place_at layout (4 * (4 * s + y)) ≡ place_at layout (4 * (4 * s)) + y * layout.step.y
slice_index layout s y small =
    let at : (r : ℕ) → place_at layout (4 * r) ≡ index_in_row layout 0 r = λ r. ap (place_at layout) (omega arith) ∙ index_by_row layout r 0 (omega arith) in
    let start : index_in_row layout 0 (4 * s) ≡ index_in_slice layout 0 s = ap (index_in_row layout 0) (omega arith) ∙ index_by_slice layout s 0 (omega arith) in
    at (4 * s + y) ∙ index_by_slice layout s y small ∙ behind_first layout s y ∙ ap (λ i. i + y * layout.step.y) (sym (at (4 * s) ∙ start))

-- ---- a run that is copied, value by value

module _ (from to : ℕ) (source old : List ℤ) where
  pub run_none : IsRunCopied 0 from to source old old
  run_none = record { long = refl; run = λ k small. absurd (omega arith); others = λ i free. refl }

  -- one value more
  pub run_next : (now : List ℤ) (k n i j : ℕ) (v : ℤ) → n ≡ k + 1 → i ≡ from + k → j ≡ to + k → j < length old
      → v ≡ get_or source i (pos 0) → IsRunCopied k from to source old now
      → IsRunCopied n from to source old (set now j v)
  run_next now k n i j v next there here room read h =
      record {
        long = length-set now j v ∙ h.long;
        run = λ l small. ⊎_elim
            (λ (before : l < k).
            get_or-set_other now j (to + l) v (pos 0) (λ e. absurd (omega arith)) ∙ h.run l before)
            (λ (last : k ≤ l).
            let at : to + l ≡ j = omega arith in
            let of : from + l ≡ i = omega arith in
            ap (λ q. get_or (set now j v) q (pos 0)) at
            ∙ get_or-set_same now j v (pos 0) (omega (arith, h.long))
            ∙ read ∙ ap (λ q. get_or source q (pos 0)) (sym of))
            (cases_lt l k);
        others = λ q free. get_or-set_other now j q v (pos 0) (λ e. free k (omega arith) (omega arith))
            ∙ h.others q (λ l small. free l (omega arith));
      }

module _ {X : Type 0} (f : X → ℤ) (from to : ℕ) (source : List X) (k n i j : ℕ) (v : X)
    (next : n ≡ k + 1) (there : i ≡ from + k) (here : j ≡ to + k) (inside : i < length source)
    (is : v ≡ get_or source i v) where
  -- of values that are copied as they are
  pub run_more : (old now : List X) → j < length old
      → IsRunCopied k from to (map f source) (map f old) (map f now)
      → IsRunCopied n from to (map f source) (map f old) (map f (set now j v))
  run_more old now room h =
      rw (map-set f now j v)
      (run_next from to (map f source) (map f old) (map f now) k n i j (f v) next there here
      (omega (arith, room, length-map old f)) (number_at f source i v (pos 0) inside is) h)

  -- of values that are put into others
  pub run_put : (old now new : List ℤ) → j < length old → new ≡ take j now ++ f v ∷ drop (j + 1) now
      → IsRunCopied k from to (map f source) old now → IsRunCopied n from to (map f source) old new
  run_put old now new room put h =
      let as_set = set_split now j (f v) (omega (arith, room, h.long)) in
      let behind : j + 1 ≡ suc j = omega arith in
      rw (put, behind, ← as_set)
      (run_next from to (map f source) old now k n i j (f v) next there here room
      (number_at f source i v (pos 0) inside is) h)

-- ---- the places of a block, run by run

module _ (e : Extent) (from to : Layout) (source old : List ℤ) where
  -- the places below n are copied, all else is as it was
  pub IsCopiedTo : List ℤ → ℕ → Type 0
  IsCopiedTo now n = IsWritten (exists e) (place_at to) (λ p. get_or source (place_at from p) (pos 0)) old now n

  pub copied_none : (n : ℕ) → n ≡ 0 → IsCopiedTo old n
  unfolding IsCopiedTo
  copied_none n none = subst (IsCopiedTo old) (sym none) (written_none (exists e) (place_at to) (λ p. get_or source (place_at from p) (pos 0)) old)

  pub copied_all : (d n : ℕ) (now : List ℤ) → d ≤ 4 → IsExtent d e → n ≡ 4 ^ d → n ≤ 256 → IsCopiedTo now n → IsCopied e from to source old now
  unfolding IsCopiedTo
  copied_all d n now dims extent whole small h = search (rules, place_below)

module _ (e : Extent) (d len : ℕ) (from : Layout) (m : ℕ) (to : Layout) (n : ℕ) (fits : CanCopyRuns e d len from m to n) where
  -- a block with whole rows has one dimension at least, so its places are its runs
  pub all_runs : len * (4 ^ d / len) ≡ 4 ^ d
  all_runs = ⊎_elim
      (λ one. ap (λ k. k * (4 ^ d / k)) one ∙ omega arith)
      (λ four. ap (λ k. k * (4 ^ d / k)) four.0 ∙ rows_of d fits.extent four.1.1)
      fits.run
    where
      rows_of : (d : ℕ) → IsExtent d e → e.size.x ≡ 4 → 4 * (4 ^ d / 4) ≡ 4 ^ d
      rows_of zero h four = absurd (omega (arith, ap (λ s. s.x) h.unused, four))
      rows_of (suc d) h four = omega (arith, pow-suc 4 d)

  pub run_below : (r : ℕ) → r < 4 ^ d / len → len * r + len ≤ 256
  run_below r lt =
      let below : r + 1 ≤ 4 ^ d / len = omega arith in
      omega (arith, all_runs, mul-add len r 1, mul-le-mul_left len below, pow-le-pow_right {n = 4} (omega arith) fits.four_at_most)

  -- of a run all places exist, or none
  run_exists : (r k : ℕ) (t : Bool) → k < len → exists e (len * r) ≡ t → exists e (len * r + k) ≡ t
  run_exists r k t small was = ⊎_elim
      (λ one. ap (exists e) (omega arith) ∙ was)
      (λ four. let same = ap (λ l. l * r) four.0 in ap (exists e) (omega arith) ∙ row_exists e r k t (omega arith) four.1.1 (ap (exists e) (sym same) ∙ was))
      fits.run

  -- and they stand beside one another
  run_index : (r k : ℕ) → k < len → (place_at from (len * r + k) ≡ place_at from (len * r) + k) × (place_at to (len * r + k) ≡ place_at to (len * r) + k)
  run_index r k small = ⊎_elim
      (λ one. let first : len * r + k ≡ len * r = omega arith in (ap (place_at from) first ∙ omega arith, ap (place_at to) first ∙ omega arith))
      (λ four.
      let same : len * r ≡ 4 * r = ap (λ l. l * r) four.0 in
      let more : len * r + k ≡ 4 * r + k = omega arith in
      let at : (layout : Layout) → layout.step.x ≡ 1 → place_at layout (len * r + k) ≡ place_at layout (len * r) + k =
      λ layout one. ap (place_at layout) more ∙ row_index layout r k (omega arith) one ∙ ap (λ q. place_at layout q + k) (sym same) in
      (at from four.1.0, at to four.2.0))
      fits.run

  pub run_within : (r i j : ℕ) → r < 4 ^ d / len → exists e (len * r) ≡ true → i ≡ place_at from (len * r) → j ≡ place_at to (len * r) → (i + len ≤ m) × (j + len ≤ n)
  run_within r i j lt here there is =
      let last = len - 1 in
      let some : 1 ≤ len = ⊎_elim (λ one. omega arith) (λ four. omega (arith, four.0)) fits.run in
      let at = run_index r last (omega arith) in
      let inside : HasPlace e (len * r + last) = record { in_block = omega (arith, run_below r lt); inside = run_exists r last true (omega arith) here } in
      (omega (arith, fits.there _ inside, at.0), omega (arith, fits.room _ inside, at.1))

  pub copied_skip : (source old now : List ℤ) (r : ℕ) → exists e (len * r) ≡ false → IsCopiedTo e from to source old now (len * r) → IsCopiedTo e from to source old now (len * (r + 1))
  unfolding IsCopiedTo
  copied_skip source old now r none h =
      subst (IsWritten (exists e) (place_at to) (λ p. get_or source (place_at from p) (pos 0)) old now) (omega (arith, mul-add len r 1))
      (written_skip_all (exists e) (place_at to) (λ p. get_or source (place_at from p) (pos 0)) old now (len * r) len (λ k small. run_exists r k false small none) h)

  pub copied_run : (source old now new : List ℤ) (r next i j : ℕ) → r < 4 ^ d / len → next ≡ r + 1 → exists e (len * r) ≡ true → i ≡ place_at from (len * r) → j ≡ place_at to (len * r)
      → IsRunCopied len i j source now new → IsCopiedTo e from to source old now (len * r) → IsCopiedTo e from to source old new (len * next)
  unfolding IsCopiedTo
  copied_run source old now new r next i j lt more here there is copied h =
      let place : (p : ℕ) → p < len * r + len → exists e p ≡ true → HasPlace e p = λ p below w. record { in_block = omega (arith, run_below r lt); inside = w } in
      subst (IsWritten (exists e) (place_at to) (λ p. get_or source (place_at from p) (pos 0)) old new) (omega (arith, mul-add len r 1, ap (λ q. len * q) more))
      (written_row (exists e) (place_at to) (λ p. get_or source (place_at from p) (pos 0)) old now new (len * r) len j
      (λ k small. run_exists r k true small here) (λ k small. (run_index r k small).1 ∙ ap (λ q. q + k) (sym is))
      (λ p k before small w same. let one = fits.one_to_one p (len * r + k) (place p (omega arith) w) (place (len * r + k) (omega arith) (run_exists r k true small here)) same in omega (arith, one))
      (λ k small. copied.run k small ∙ ap (λ q. get_or source q (pos 0)) (ap (λ q. q + k) there ∙ sym (run_index r k small).0))
      copied.others h)

-- ---- from a layout into the block, and back

module _ (layout from : Layout) (e : Extent) (counted : (p : Pos) → index_of from p ≡ index_of layout (moved e.origin p)) (old new : List ℤ) where
  pub gathered : (values : List ℤ) → IsCopied e from block_layout values old new → IsGathered layout e values old new
  gathered values h = record {
    existing = λ p at. ap (λ i. get_or new i (pos 0)) (sym (place_itself p (omega (arith, at.in_block)))) ∙ h.existing p at ∙ ap (λ i. get_or values i (pos 0)) (counted (place_indices p));
    others = λ p none. h.others p (λ q at same. none (subst (HasPlace e) (sym (place_itself q (omega (arith, at.in_block))) ∙ same) at));
  }

  pub scattered : (block : List ℤ) → IsCopied e block_layout from block old new → IsScattered layout e block old new
  scattered block h = record {
    existing = λ p at. ap (λ i. get_or new i (pos 0)) (sym (counted (place_indices p))) ∙ h.existing p at ∙ ap (λ i. get_or block i (pos 0)) (place_itself p (omega (arith, at.in_block)));
    others = λ i free. h.others i (λ p at same. free p at (sym (counted (place_indices p)) ∙ same));
  }

-- the first position has an index
pub first_within : (layout : Layout) (e : Extent) (d n size : ℕ) → CanCopy layout e d n size → index_of layout e.origin < n
first_within layout e d n size fits = omega (arith, fits.within 0 (first_place d e fits.four_at_most fits.extent), first_index layout e)

module _ (layout from : Layout) (e : Extent) (d n size len : ℕ) (counted : (p : Pos) → index_of from p ≡ index_of layout (moved e.origin p)) (step : from.step ≡ layout.step)
    (fits : CanCopy layout e d n size) (run : (len ≡ 1) ⊎ ((len ≡ 4) × HasWholeRows layout e)) where
  whole_rows : (len ≡ 1) ⊎ ((len ≡ 4) × HasWholeRows from e × HasWholeRows block_layout e)
  unfolding block_layout
  whole_rows = ⊎_elim inl (λ rows. inr (rows.0, (ap (λ (s : Pos). s.x) step ∙ rows.1.0, rows.1.1), (refl, rows.1.1))) run

  in_list : (p : ℕ) → HasPlace e p → place_at from p < n
  in_list p at = omega (arith, counted (place_indices p), fits.within p at)

  in_block : (p : ℕ) → HasPlace e p → place_at block_layout p < size
  in_block p at = omega (arith, place_itself p (omega (arith, at.in_block)), place_below d e fits.four_at_most fits.extent p at, fits.whole)

  pub can_gather : CanCopyRuns e d len from n block_layout size
  can_gather = record {
    four_at_most = fits.four_at_most;
    extent = fits.extent;
    run = whole_rows;
    there = in_list;
    room = in_block;
    one_to_one = λ p q here there same. sym (place_itself p (omega (arith, here.in_block))) ∙ same ∙ place_itself q (omega (arith, there.in_block));
  }

  pub can_scatter : IsOneToOne layout e → CanCopyRuns e d len block_layout size from n
  can_scatter one = record {
    four_at_most = fits.four_at_most;
    extent = fits.extent;
    run = ⊎_elim inl (λ rows. inr (rows.0, rows.2, rows.1)) whole_rows;
    there = in_block;
    room = in_list;
    one_to_one = λ p q here there same. one p q here there (sym (counted (place_indices p)) ∙ same ∙ counted (place_indices q));
  }
