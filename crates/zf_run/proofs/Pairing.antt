-- A store and a two-way cache after a call, as a session.
use Rattle.std.proofs.Common.{rules, ◌≡◌, sym, ap, subst, ◌∙◌, ℕ, ◌^◌, ◌<◌, ℤ, pos, ◌+ℤ◌, Bool, true, false, List, map, length, get_or, set, replicate, ext_get_or}
use Rattle.std.specs.Int.{Width}
use Rattle.std.proofs.lemmas.List.{length-set, length-map, map-set, get_or-map}
use Rattle.zf_spec.{specs.Numbers.{wrap}, specs.Grid.{blocks}}
use Rattle.zf_base.{specs.Places.{block_number, place_of, IsAt}, specs.Formats.{Format, existing_of}}
use Rattle.zf_base.{specs.Positions.{used_axes}, specs.declared.position.Pos.{Pos}}
use Rattle.zf_base.proofs.Formats as formats
use Rattle.zf_header.{specs.declared.header.Header.{Header}, specs.HeaderBits.{block_bits}}
use Rattle.zf_cached.{specs.State.{State}, specs.Touch.{soiled, with_values, touch_for_writing_at}}
use Rattle.zf_cached.{specs.Arrays.{array_format}, proofs.Caching.{touch-left}}
use Rattle.zf_lines.{specs.Rows.{over}, proofs.Sizes.{over_same}}
use Rattle.zf_cache.{specs.Kept.{Kept}, specs.Standing.{state_at}}
use Rattle.zf_cache.{specs.Steps.{with_value, put_at}, proofs.Sound.{existing_of-set}}
use Rattle.zf_store.specs.Stored.{Stored, Frame, frame_of, rate_of, code_at}
use Rattle.zf_twoway.{specs.Touch.{touch, touch_for_writing, put}, specs.Placing.{two_lines}}
use Rattle.zf_twoway.specs.Standing.{state_of}
use Rattle.zf_run.{specs.Sessions.{IsArray}, proofs.Sessions.{with_names, rate_format}}

-- ---- an array at a rate

-- a block of it, and a place of a position
pub block_below : (h : Header) (b : ℕ) → b < blocks h.shape → b < (rate_format h).blocks
unfolding array_format
block_below h b lt = lt

pub place_below : (w : Width) (d : ℕ) (h : Header) → IsArray w d h → (ps : List ℕ) (b k : ℕ) → IsAt h.shape ps b k → k < 4 ^ d
place_below w d h is ps b k at = subst (λ n. k < 4 ^ n) is.dims at.place_in_block

pub place_exists : (h : Header) (ps : List ℕ) (b k : ℕ) → IsAt h.shape ps b k → (rate_format h).exists b k ≡ true
unfolding array_format
place_exists h ps b k at = at.exists

-- block b and its place k are those of a position of an array with this header
pub record IsPlaced (p : Pos) (b k : ℕ) (h : Header) : Type 0 where
  pub block : b ≡ block_number h.shape (used_axes (length h.shape) p)
  pub place : k ≡ place_of (used_axes (length h.shape) p)
  pub at : IsAt h.shape (used_axes (length h.shape) p) b k

-- ---- values

module _ {X Code : Type 0} (value : X → ℤ) (f : Format Code) (c : Kept X) (k : ℕ → Code) (b : ℕ) where
  -- a block has values at the places that exist alone
  whole_now : existing_of f b ((state_of value c f k).values b) ≡ (state_of value c f k).values b
  unfolding state_at
  whole_now = search (rules, formats.existing_of-existing_of, formats.existing_of-meant)

  abbrev written : State Code
  written = touch_for_writing f (state_of value c f k) b

  whole_written : existing_of f b (written.values b) ≡ written.values b
  unfolding touch_for_writing_at soiled
  whole_written = let left = touch-left two_lines f (state_of value c f k) b in subst (λ vs. existing_of f b vs ≡ vs) (sym left.values) whole_now

  -- a value that is put where a place exists
  pub put_two : (p : ℕ) (x : ℤ) → f.exists b p ≡ true → put f (state_of value c f k) b p x ≡ with_values written b (set (written.values b) p x)
  unfolding put_at with_value
  put_two p x exists = ap (with_values written b) (formats.existing_of-set f b (written.values b) p x exists whole_written)

  -- a value that is added to through a loan of the block's line
  pub increase_two : (row : List X) (p : ℕ) (r y x : X) (w : Width) → f.exists b p ≡ true → length row ≡ f.block_len → p < f.block_len
      → existing_of f b (map value row) ≡ (touch f (state_of value c f k) b).values b → r ≡ get_or row p r → value y ≡ wrap w (value r +ℤ value x)
      → with_values written b (existing_of f b (map value (over row (set row p y)))) ≡ with_values written b (set (written.values b) p (wrap w (get_or (written.values b) p (pos 0) +ℤ value x)))
  unfolding touch_for_writing_at soiled
  increase_two row p r y x w exists long below held read sum =
      search (rules, over_same, length-set, map-set, existing_of-set, length-map, formats.existing_of-set, whole_written, formats.get_or-existing_of_exists, get_or-map)

-- ---- answers

abbrev framed : Header → ℕ → Frame
framed h n = record { header = h; count = n }

-- what a step of cache and store leaves says that the header stays
pub same_header : (g h : Header) (m n : ℕ) → framed h m ≡ framed g n → h ≡ g
same_header g h m n e = ap (λ (q : Frame). q.header) e

-- the same header, and two references that are the same
pub same_pair : {N : Type 0} (m n : N) (g h : Header) → h ≡ g → with_names m n h ≡ with_names m n g
same_pair m n g h head = ap (with_names m n) head

-- a store with the same header and the same codes
pub same_store : (s t : Stored) → frame_of t ≡ frame_of s → ((b : ℕ) → code_at t b ≡ code_at s b) → t ≡ s
same_store s t frame codes =
    let head : t.header ≡ s.header = ap (λ (q : Frame). q.header) frame in
    let count : length t.codes ≡ length s.codes = ap (λ (q : Frame). q.count) frame in
    let d = replicate (rate_of s) false in
    let same : t.codes ≡ s.codes = ext_get_or d t.codes s.codes count
    (λ k lt. ap (λ (h : Header). get_or t.codes k (replicate (block_bits h.mode) false)) (sym head) ∙ codes k) in
    λ i. record { header = head i; codes = same i }
