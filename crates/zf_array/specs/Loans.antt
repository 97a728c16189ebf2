-- What an array is once a loan has ended.
use Rattle.std.specs.Prelude.{◌≡◌, ℕ, ◌+◌, ℤ, List, ◌++◌, map, take, drop, slice_set, ⊤}
use Rattle.std.specs.Borrow.{Fml, RattleType, MutBor, Array, Lends, follows_so}
use mathlib.Core.Option.{none}
use Rattle.zf_base.specs.Formats.{existing_of}
use Rattle.zf_cached.specs.Touch.{touch_for_writing, with_values}
use Rattle.std.specs.declared.cmp.PartialEq as PartialEq
use Rattle.zf_base.specs.declared.lane.Lane as Lane
use Rattle.zf_lines.specs.Rows.{over}
use Rattle.zf_base.specs.declared.position.Pos.{Pos}
use Rattle.zf_array.specs.Standing.{Held, format, state, array_of, block_at, place_at}
use Rattle.zf_array.specs.contracts.array.Array.{the_row}

-- values with others in the place of the n from place k on
abbrev pub spliced : List ℤ → ℕ → ℕ → List ℤ → List ℤ
spliced values k n others = take k values ++ others ++ drop (k + n) values

-- the array a with these n values in block b from its place k on
abbrev pub with_part : Held → ℕ → ℕ → ℕ → List ℤ → Held
with_part a b k n others =
    let s = state a in
    array_of a.header (with_values s b (existing_of (format a) b (spliced (s.values b) k n others)))

-- the array a with these values of block b, after a touch for writing
abbrev pub with_block : Held → ℕ → List ℤ → Held
with_block a b values = array_of a.header (with_values (touch_for_writing (format a) (state a) b) b
    (existing_of (format a) b values))

-- the array a with this value at position p, after a touch for writing
abbrev pub with_value : Held → Pos → ℤ → Held
with_value a p v =
    let b = block_at a p in
    let t = touch_for_writing (format a) (state a) b in
    array_of a.header (with_values t b (slice_set (t.values b) (place_at a p) v))

module _ (R D : RattleType) (lane : Lane.Ghosts R.Denot) (eq : PartialEq.Ghosts R.Denot) (a : MutBor Held)
  where
    -- n values of block b from its place k on are the last ones written through r
    abbrev pub EndsWithPart : ℕ → ℕ → ℕ → MutBor (List R.Denot) → Fml
    EndsWithPart b k n r = Lends (the_row R D lane eq) (Array R 0) a r
        (λ ws. with_part a.now b k n (map lane.value (over r.now ws)))

    -- block b is touched for writing, and its values are the last ones written through r
    abbrev pub EndsWithBlock : ℕ → MutBor (List R.Denot) → Fml
    EndsWithBlock b r = Lends (the_row R D lane eq) (Array R 0) a r
        (λ ws. with_block a.now b (map lane.value (over r.now ws)))

    -- position p is touched for writing, and its value is the last one written through r
    abbrev pub EndsWithValue : Pos → MutBor R.Denot → Fml
    EndsWithValue p r = Lends (the_row R D lane eq) R a r (λ v. with_value a.now p (lane.value v))

    -- a loan for reading leaves this array
    abbrev pub EndsAs : Held → Fml
    EndsAs after = follows_so (the_row R D lane eq) (the_row R D lane eq) a.ghost_name none (λ _ _. ⊤)
        (λ e. e ≡ after)
