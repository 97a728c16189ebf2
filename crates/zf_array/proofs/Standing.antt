-- An array stands for the state that its cache and its store stand for.
use Rattle.std.proofs.Common.{◌≡◌, sym, ap, subst, ◌∙◌, ℕ, ◌<◌, ◌≤◌, ℤ, Bool, false, Some, None, List, map, length, get_or, replicate, arith, rules}
use Rattle.std.{specs.Int.{Width}, proofs.lemmas.Bool.{cases_lt, ne_eqb}}
use Rattle.std.proofs.lemmas.List.{get_or_past}
use Rattle.zf_spec.specs.Grid.{upto, blocks}
use Rattle.zf_spec.proofs.Counting.{length-map-upto, get_or-map-upto, map-get_or-upto}
use Rattle.zf_base.{specs.Widths.{width_of}, specs.Formats.{Format, meant}, proofs.Sizes.{blocks_le}}
use Rattle.zf_header.{specs.declared.header.Header.{Header}, specs.HeaderBits.{block_bits}}
use Rattle.zf_cached.{specs.State.{State}, specs.Changes.{zeros}, specs.Arrays.{rate_coding}, proofs.Arrays.{meant-zeros}}
use Rattle.zf_cached.proofs.States.{same_state}
use Rattle.zf_cache.specs.Kept.{Kept, HasBlocks, tag_at, block_in, line_of, is_dirty, dirty_tag}
use Rattle.zf_cache.specs.Standing.{state_of, Fits, state_at}
use Rattle.zf_cache.proofs.Tags.{names-dirty, is_block-other}
use Rattle.zf_store.specs.Stored.{Stored, Frame, code_at, format_of, frame_of, rate_of}
use Rattle.zf_store.proofs.Kept.{blocks_is, block_len_is}
use Rattle.zf_array.{specs.Standing.{Held, stored, format, state, array_of}, specs.Parts.{held_by, IsJoined}}

-- the code of zeros means zeros
pub zero_meant : (s : Stored) (b : ℕ) → meant (format_of s) b (replicate (rate_of s) false) ≡ zeros (format_of s)
unfolding rate_coding
zero_meant s b = meant-zeros (width_of s.header.ty) (rate_of s) s.header.shape b

-- ---- a state of which nothing is said past its lines and blocks

pub record IsBounded (h : Header) (s : State (List Bool)) : Type 0 where
  pub held : (l : ℕ) → s.lines ≤ l → None ≡ s.held l
  pub dirty : (b : ℕ) → blocks h.shape ≤ b → false ≡ s.dirty b
  pub values : (b : ℕ) → blocks h.shape ≤ b → zeros (format (array_of h s)) ≡ s.values b
  pub codes : (b : ℕ) → blocks h.shape ≤ b → replicate (block_bits h.mode) false ≡ s.codes b

from_list : {Y : Type 0} (g : ℕ → Y) (n k : ℕ) (y : Y) → (n ≤ k → y ≡ g k) → get_or (map g (upto n)) k y ≡ g k
from_list g n k y behind = search (rules, cases_lt, get_or-map-upto, get_or_past, length-map-upto, behind)

pub state_array : (h : Header) (s : State (List Bool)) → IsBounded h s → state (array_of h s) ≡ s
unfolding state array_of
state_array h s bounded = search (rules, same_state, length-map-upto, from_list)

module _ {X : Type 0} (value : X → ℤ) (s : Stored) (c : Kept X) (count : length s.codes ≡ blocks s.header.shape) (fits : Fits value c (format_of s) (code_at s)) where
  -- the codes, as a list
  pub stored_held : stored (held_by value s c) ≡ s
  unfolding array_of state_at
  stored_held =
      let codes : map (code_at s) (upto (blocks s.header.shape)) ≡ s.codes = map-get_or-upto s.codes (blocks s.header.shape) (replicate (rate_of s) false) count in
      λ i. record { header = s.header; codes = codes i }

  -- a block in a line is one of the array's
  pub in_array : (l b : ℕ) → block_in (tag_at c.tags l) ≡ Some b → b < blocks s.header.shape
  in_array l b is = subst (λ n. b < n) (blocks_is s) (fits.own l b is).1

  clean_past : (b : ℕ) → blocks s.header.shape ≤ b → false ≡ is_dirty c b
  clean_past b h =
      sym (ne_eqb (tag_at c.tags (line_of c b)) (dirty_tag b) (λ e. let below = in_array (line_of c b) b (ap block_in e ∙ names-dirty b) in omega (arith, below)))

  pub bounded_of : IsBounded s.header (state_of value c (format_of s) (code_at s))
  unfolding state_at array_of
  bounded_of = search (rules, in_array, is_block-other, get_or_past, zero_meant, clean_past)

  pub state_held : state (held_by value s c) ≡ state_of value c (format_of s) (code_at s)
  state_held = state_array s.header (state_of value c (format_of s) (code_at s)) bounded_of

-- ---- the fields of an array

module _ {X : Type 0} (value : X → ℤ) (w : Width) (d : ℕ) (s : Stored) (c : Kept X) (room : ℕ) (joined : IsJoined value w d s c room) where
  pub has_blocks : HasBlocks (format_of s) d
  has_blocks = search (rules, block_len_is, blocks_is, blocks_le)

  module _ (now : Held) (is : held_by value s c ≡ now) where
    pub stored_now : stored now ≡ s
    stored_now = sym (ap stored is) ∙ stored_held value s c joined.count joined.fits

    pub state_now : state now ≡ state_of value c (format_of s) (code_at s)
    state_now = sym (ap state is) ∙ state_held value s c joined.count joined.fits

    pub format_now : format now ≡ format_of s
    format_now = ap format_of stored_now

    pub header_now : now.header ≡ s.header
    header_now = ap (λ (u : Stored). u.header) stored_now

  -- ---- what a call of the cache leaves

  module _ (t : Stored) (e : Kept X) (frame : frame_of t ≡ frame_of s) where
    pub header_kept : t.header ≡ s.header
    header_kept = ap (λ (f : Frame). f.header) frame

    pub joined_after : Fits value e (format_of t) (code_at t) → IsJoined value w d t e room
    joined_after fits = search (rules, header_kept)

    pub state_after : Fits value e (format_of t) (code_at t) → state (held_by value t e) ≡ state_of value e (format_of t) (code_at t)
    state_after fits = let after = joined_after fits in state_held value t e after.count fits

  module _ (now : Held) (is : held_by value s c ≡ now) (t : Stored) (e : Kept X) (frame : frame_of t ≡ frame_of s) (fits : Fits value e (format_of t) (code_at t)) where
    -- what is said of the states of caches and stores is said of those of the arrays
    pub step : (F : Format (List Bool) → State (List Bool) → State (List Bool)) → state_of value e (format_of t) (code_at t) ≡ F (format_of s) (state_of value c (format_of s) (code_at s))
        → state (held_by value t e) ≡ F (format now) (state now)
    step F given = cc (state_after t e frame fits, format_now now is, state_now now is)

    -- and the array itself is known by its state
    pub held_step : (F : Format (List Bool) → State (List Bool) → State (List Bool)) → state_of value e (format_of t) (code_at t) ≡ F (format_of s) (state_of value c (format_of s) (code_at s))
        → held_by value t e ≡ array_of now.header (F (format now) (state now))
    held_step F given = cc (header_kept t e frame, header_now now is, format_now now is, state_now now is)

    pub header_step : (held_by value t e).header ≡ now.header
    unfolding array_of
    header_step = header_kept t e frame ∙ sym (header_now now is)
