-- A run of positions of a window along x: its values stand side by side in one block of the array.
use Rattle.std.proofs.Common.{◌≡◌, ℕ, ◌+◌, ◌-◌, ◌*◌, ◌%◌, ◌^◌, ◌<◌, ◌≤◌, ℤ, Bool, true, ltb-true, lt-ltb, List, [], ◌∷◌, map, length, take, drop, get_or, refl, ap, sym, subst, ◌∙◌, arith, rules}
use Rattle.std.proofs.lemmas.Bool.{and_parts, and_from}
use Rattle.std.proofs.lemmas.List.{length-map, length-take-le, length-drop}
use Rattle.zf_spec.specs.Grid.{is_inside, extent_of, indices}
use Rattle.zf_base.{specs.declared.position.Pos.{Pos}, specs.Positions.{used_axes, with_unused, IsPosition}}
use Rattle.zf_base.{specs.Places.{IsAt}, specs.Formats.{Format, existing_of}, proofs.Places.{IsAt-position}}
use Rattle.zf_base.proofs.Formats.{length-existing_of, existing_of-existing_of}
use Rattle.zf_base.proofs.Extents.{length-used_axes, used_axes-with_unused}
use Rattle.zf_cached.{specs.State.{State}, specs.Windows.{Window, LiesIn, mapped}}
use Rattle.zf_cached.specs.Touch.{touch, touch_for_writing, soiled, with_values, touch_for_writing_at}
use Rattle.zf_cached.{specs.Arrays.{Coding, array_format}, proofs.Windows.{length-mapped}}
use Rattle.zf_array.specs.Standing.{Held, format, state, array_of, shape, block_at, place_at}
use Rattle.zf_array.specs.Loans.{spliced, with_part}
use Rattle.zf_array.proofs.Lent.{found_there, ends_there, state_there, part_is, spliced_exists, part_spliced}
use Rattle.zf_window.specs.Positions.{position_at, x_step, run_length}
use Rattle.zf_window.proofs.Beside.{block_further, place_further}
use Rattle.zf_window.proofs.Positions.{four_axes, position_at-inside}
use Rattle.zf_view.specs.Sums.{block_of, place_in}
use Rattle.zf_view.specs.Runs.{along_x, AreBeside, run_in, ShowsRunOf, block_found, run_found, run_changed, with_run}

-- the coordinates of a position that is made of them
flat : (ns ms : List ℕ) → length ms ≡ length ns → length ns ≤ 4 → used_axes (length ns) (with_unused 0 ms) ≡ ms
flat ns ms long four = ap (λ d. used_axes d (with_unused 0 ms)) (sym long) ∙ used_axes-with_unused 0 ms (omega arith)

-- ---- a run of a window

module _ (ns : List ℕ) (o s t : ℕ) (os ss ts : List ℕ) (p : Pos) (lies : LiesIn ns (record { origin = o ∷ os; size = s ∷ ss; step = t ∷ ts })) (at : IsPosition (s ∷ ss) p) (one : t ≡ 1) where
  abbrev w : Window
  w = record { origin = o ∷ os; size = s ∷ ss; step = t ∷ ts }

  abbrev rest : List ℕ
  rest = take (length ss) (p.y ∷ p.z ∷ p.w ∷ [])

  four : length ns ≤ 4
  four = omega (arith, four_axes (s ∷ ss) p at, lies.sizes)

  further : (k : ℕ) → p.x + k < s → IsPosition (s ∷ ss) (along_x p k)
  further k below = search (rules, and_parts, and_from, lt-ltb, below)

  mapped_flat : (q : Pos) → IsPosition (s ∷ ss) q → used_axes (length ns) (position_at w q) ≡ mapped w (used_axes (length (s ∷ ss)) q)
  mapped_flat q on = search (rules, four_axes, flat, length-mapped, length-used_axes, four)

  module _ (k : ℕ) (lt : k < run_length w p) where
    below : p.x + k < s
    below = omega (arith, lt)

    in_block : (o + p.x * t) % 4 + k < 4
    in_block = omega (arith, lt)

    sum : o + (p.x + k) * t ≡ o + p.x * t + k
    sum = let e : o + (p.x + k) * 1 ≡ o + p.x * 1 + k = omega arith in subst (λ m. o + (p.x + k) * m ≡ o + p.x * m + k) (sym one) e

    block_same : block_of ns (position_at w (along_x p k)) ≡ block_of ns (position_at w p)
    block_same = search (rules, mapped_flat, further, below, block_further, sum, in_block)

    place_on : place_in ns (position_at w (along_x p k)) ≡ place_in ns (position_at w p) + k
    place_on = search (rules, mapped_flat, further, below, place_further, sum, in_block)

  run_there : AreBeside ns w p (run_length w p) × (0 < run_length w p)
  run_there = search (rules, further, below, block_same, place_on, ltb-true, and_parts)

-- the window has an axis, as it has a step along x
by_axes : (ns : List ℕ) (os ss ts : List ℕ) (p : Pos) → (let w : Window = record { origin = os; size = ss; step = ts } in
    LiesIn ns w → IsPosition ss p → get_or ts 0 0 ≡ 1 → AreBeside ns w p (run_length w p) × (0 < run_length w p))
by_axes ns (o ∷ os) (s ∷ ss) (t ∷ ts) p lies at one = run_there ns o s t os ss ts p lies at one
by_axes ns os ss [] p lies at one = absurd (omega arith)
by_axes ns [] ss (t ∷ ts) p lies at one = absurd (let e = lies.origins in let f = lies.steps in omega (arith, e, f))
by_axes ns (o ∷ os) [] (t ∷ ts) p lies at one = absurd (let e = lies.origins in let f = lies.sizes in omega (arith, e, f))

module _ (ns : List ℕ) (w : Window) (p : Pos) (lies : LiesIn ns w) (at : IsPosition w.size p) (one : x_step w ≡ 1) where
  pub beside : AreBeside ns w p (run_length w p)
  beside = (by_axes ns w.origin w.size w.step p lies at one).0

  some : 0 < run_length w p
  some = (by_axes ns w.origin w.size w.step p lies at one).1

  -- so its places are those of positions of the array
  at_run : (k : ℕ) → k < run_length w p → IsAt ns (used_axes (length ns) (position_at w (along_x p k))) (block_of ns (position_at w p)) (place_in ns (position_at w p) + k)
  at_run k lt =
      let q = position_at w (along_x p k) in
      let inside = position_at-inside ns w (along_x p k) lies (beside.inside k lt) in
      let there = IsAt-position ns (used_axes (length ns) q) (length-used_axes (length ns) q (four_axes ns q inside)) inside.inside in
      subst (λ m. IsAt ns (used_axes (length ns) q) m (place_in ns (position_at w p) + k)) (beside.block k lt)
      (subst (λ m. IsAt ns (used_axes (length ns) q) (block_of ns q) m) (beside.place k lt) there)

  pub run_within : place_in ns (position_at w p) + run_length w p ≤ 4 ^ length ns
  run_within = let last = (at_run (run_length w p - 1) (omega (arith, some))).place_in_block in omega (arith, last, some)

  -- ---- in a block of which these places exist, the run's exist
  module _ (f : Format (List Bool)) (len_is : f.block_len ≡ 4 ^ length ns) (exists_is : (b k : ℕ) → f.exists b k ≡ is_inside (extent_of ns b) (indices (length ns) k))
      (b k n : ℕ) (eb : b ≡ block_of ns (position_at w p)) (ek : k ≡ place_in ns (position_at w p)) (en : n ≡ run_length w p) where
    pub within : k + n ≤ f.block_len
    within = subst (λ m. k + n ≤ m) (sym len_is) (omega (arith, ek, en, run_within))

    pub exist : (j : ℕ) → j < n → f.exists b (k + j) ≡ true
    exist j lt = (λ i. f.exists (eb i) (ek i + j)) ∙ exists_is _ _ ∙ (at_run j (omega (arith, lt, en))).exists

    -- the run is the n values from place k of block b on, which this row shows
    module _ {X : Type 0} (value : X → ℤ) (row : List X) (whole : length row ≡ 4 ^ length ns) (vs : List ℤ) (shows : existing_of f b (map value row) ≡ vs) where
      row_whole : length row ≡ f.block_len
      row_whole = whole ∙ sym len_is

      part_long : length (take n (drop k row)) ≡ n
      part_long = length-take-le n (drop k row) (omega (arith, length-drop k row, row_whole, within))

      seen : map value (take n (drop k row)) ≡ run_in ns vs (position_at w p) (run_length w p)
      seen =
          let xs = existing_of f b (map value row) in
          let ys = map value (take n (drop k row)) in
          let long : length ys ≡ n = length-map (take n (drop k row)) value ∙ part_long in
          let room : k + n ≤ length xs = omega (arith, length-existing_of f b (map value row), within) in
          let same : spliced xs k n ys ≡ xs =
          sym (spliced_exists f b xs k n ys (existing_of-existing_of f b (map value row)) long within exist) ∙ part_is value f b row k n row_whole within in
          sym (part_spliced xs k n ys long room) ∙ ap (λ (zs : List ℤ). take n (drop k zs)) (same ∙ shows) ∙ (λ i. take (en i) (drop (ek i) vs))

      pub run_shown : (part : List X) → part ≡ take n (drop k row) → ShowsRunOf value ns vs w p part
      run_shown part is = record { size = ap length is ∙ part_long ∙ en; beside = beside; value_is = ap (map value) is ∙ seen }

-- ---- arrays

pub len_of : {Code : Type 0} (c : Coding Code) (ns : List ℕ) → (array_format c ns).block_len ≡ 4 ^ length ns
unfolding array_format
len_of c ns = refl

pub exists_of : {Code : Type 0} (c : Coding Code) (ns : List ℕ) (b k : ℕ) → (array_format c ns).exists b k ≡ is_inside (extent_of ns b) (indices (length ns) k)
unfolding array_format
exists_of c ns b k = refl

-- what a touch finds, for writing or not
pub found_is : (a : Held) (q : Pos) (b : ℕ) → b ≡ block_at a q → (touch (format a) (state a) b).values b ≡ block_found a q
unfolding touch_for_writing_at soiled
found_is a q b eb = λ i. (touch (format a) (state a) (eb i)).values (eb i)

module _ (a : Held) (w : Window) (p : Pos) (lies : LiesIn (shape a) w) (at : IsPosition w.size p) (one : x_step w ≡ 1) where
  -- ---- n values from place k of block b on, which is the run, are lent after a touch for writing
  module _ (t : Held) (b k n : ℕ) (eb : b ≡ block_at a (position_at w p)) (ek : k ≡ place_at a (position_at w p)) (en : n ≡ run_length w p)
      (head : t.header ≡ a.header) (is : state t ≡ touch_for_writing (format a) (state a) b)
      (ys : List ℤ) (long : length ys ≡ n) (shows : existing_of (format t) b (spliced ((state t).values b) k n ys) ≡ (state t).values b) where
    room : k + n ≤ (format a).block_len
    room = within (shape a) w p lies at one (format a) (len_of _ (shape a)) (exists_of _ (shape a)) b k n eb ek en

    exist_there : (j : ℕ) → j < n → (format a).exists b (k + j) ≡ true
    exist_there = exist (shape a) w p lies at one (format a) (len_of _ (shape a)) (exists_of _ (shape a)) b k n eb ek en

    abbrev changed : ℕ → ℕ → ℕ → List ℤ → State (List Bool)
    changed m j l vs = let u = touch_for_writing (format a) (state a) m in with_values u m (spliced (u.values m) j l vs)

    changed_is : (vs : List ℤ) → length vs ≡ n → changed b k n vs ≡ run_changed a (position_at w p) vs
    changed_is vs size = λ i. changed (eb i) (ek i) (sym size i) vs

    pub run_is : ys ≡ run_found a (position_at w p) (run_length w p)
    run_is = found_there a t b k n ys head is long shows room exist_there ∙ (λ i. take (en i) (drop (ek i) ((touch_for_writing (format a) (state a) (eb i)).values (eb i))))

    pub run_ends : (vs : List ℤ) → length vs ≡ n → with_part t b k n vs ≡ with_run a (position_at w p) vs
    run_ends vs size = ends_there a t b k n ys head is long shows room exist_there vs size ∙ ap (array_of a.header) (changed_is vs size)

    pub run_state : (vs : List ℤ) → length vs ≡ n → state (with_part t b k n vs) ≡ with_values (state t) b (existing_of (format t) b (spliced ((state t).values b) k n vs))
        → state (with_run a (position_at w p) vs) ≡ run_changed a (position_at w p) vs
    run_state vs size e =
        ap (λ s. state (array_of a.header s)) (sym (changed_is vs size)) ∙ state_there a t b k n ys head is long shows room exist_there vs size e ∙ changed_is vs size

pub header_run : (a : Held) (q : Pos) (vs : List ℤ) → (with_run a q vs).header ≡ a.header
unfolding array_of
header_run a q vs = refl
