-- Arrays with no block in any line, and their codes.
use Rattle.std.proofs.Common.{◌≡◌, sym, ap, subst, ◌∙◌, ℕ, ◌<◌, ℤ, Bool, Some, None, List, length, rules}
use Rattle.std.{proofs.lemmas.Bool.{ne_eqb}, specs.Borrow.{GName, MutBor}, specs.Int.{Width}}
use Rattle.zf_base.specs.Formats.{Format, existing_of, meant, with_at, encoded}
use Rattle.zf_cached.{specs.State.{State}, proofs.States.{same_state}}
use Rattle.zf_header.specs.declared.header.Header.{Header}
use Rattle.zf_cache.{specs.Kept.{Kept, tag_at, block_in}, specs.Standing.{state_of, Fits, state_at}}
use Rattle.zf_cache.proofs.Tags.{names-clean, names-dirty}
use Rattle.zf_store.specs.Stored as store
use Rattle.zf_store.specs.Stored.{Stored, code_at, format_of}
use Rattle.zf_array.{specs.Standing.{Held, format, state, array_of}, specs.Parts.{held_by, IsJoined}}
use Rattle.zf_array.specs.Coded.{HasEmptyLines, IsCoded, Frame, frame_of, coded}
use Rattle.zf_array.proofs.Standing.{state_now, format_now, header_kept, state_after}

-- ---- a cache with no block in any line

module _ {X Code : Type 0} (value : X → ℤ) (f : Format Code) (c : Kept X) (k : ℕ → Code) (none : (l : ℕ) → block_in (tag_at c.tags l) ≡ None) where
  no_block : (l b : ℕ) → block_in (tag_at c.tags l) ≡ Some b → ⊥
  no_block l b is = let both : None ≡ Some b = sym (none l) ∙ is in cc

  pub none_fits : Fits value c f k
  none_fits = search (rules, no_block, names-clean)

  pub none_coded : (s : State Code) → length c.tags ≡ s.lines → c.counts ≡ s.counts → state_of value c f k ≡ coded f s k
  unfolding state_at coded
  none_coded s lines counts = search (rules, same_state, ne_eqb, no_block, names-dirty)

-- ---- an array with no block in any line

module _ {X : Type 0} (value : X → ℤ) (w : Width) (d : ℕ) (s : Stored) (c : Kept X) (room : ℕ) (joined : IsJoined value w d s c room) (now : Held) (is : held_by value s c ≡ now) where
  -- the state of the cache and the store
  there : state now ≡ state_of value c (format_of s) (code_at s)
  there = state_now value w d s c room joined now is

  pub none_held : HasEmptyLines now → (l : ℕ) → block_in (tag_at c.tags l) ≡ None
  unfolding state_at
  none_held empty l = ap (λ (u : State (List Bool)). u.held l) (sym there) ∙ empty l

  lines_there : length c.tags ≡ (state now).lines
  unfolding state_at
  lines_there = ap (λ (u : State (List Bool)). u.lines) (sym there)

  counts_there : c.counts ≡ (state now).counts
  unfolding state_at
  counts_there = ap (λ (u : State (List Bool)). u.counts) (sym there)

  pub codes_there : (state now).codes ≡ code_at s
  unfolding state_at
  codes_there = ap (λ (u : State (List Bool)). u.codes) there

  -- a block, and a line of its values, are those of the store
  pub block_there : (b : ℕ) → b < (format now).blocks → b < (format_of s).blocks
  block_there b below = subst (λ (f : Format (List Bool)). b < f.blocks) (format_now value w d s c room joined now is) below

  pub line_there : (n : ℕ) → n ≡ (format now).block_len → n ≡ (format_of s).block_len
  line_there n whole = whole ∙ ap (λ (f : Format (List Bool)). f.block_len) (format_now value w d s c room joined now is)

  -- what is loaded
  pub loaded : (b : ℕ) (values : List ℤ) → existing_of (format_of s) b values ≡ meant (format_of s) b (code_at s b) → existing_of (format now) b values ≡ meant (format now) b ((state now).codes b)
  loaded b values e = let f = format_now value w d s c room joined now is in let k = codes_there in cc

  -- a load leaves all as it is
  module _ (t : Stored) (frame : store.frame_of t ≡ store.frame_of s) (same : format_of t ≡ format_of s) (codes : code_at t ≡ code_at s) where
    pub fits_loaded : Fits value c (format_of t) (code_at t)
    fits_loaded = subst (λ k. Fits value c (format_of t) k) (sym codes) (subst (λ f. Fits value c f (code_at s)) (sym same) joined.fits)

    pub held_loaded : held_by value t c ≡ now
    held_loaded = (λ i. array_of (header_kept value w d s c room joined t c frame i) (state_of value c (same i) (codes i))) ∙ is

  -- it stands for its codes alone
  pub empty_coded : HasEmptyLines now → IsCoded now
  empty_coded empty =
      there ∙ none_coded value (format_of s) c (code_at s) (none_held empty) (state now) lines_there counts_there
      ∙ (λ i. coded (sym (format_now value w d s c room joined now is) i) (state now) (sym codes_there i))

  -- and so it does with other codes
  module _ (empty : HasEmptyLines now) (t : Stored) (frame : store.frame_of t ≡ store.frame_of s) (same : format_of t ≡ format_of s) where
    pub fits_stored : Fits value c (format_of t) (code_at t)
    fits_stored = none_fits value (format_of t) c (code_at t) (none_held empty)

    pub stored_coded : (b : ℕ) (values : List ℤ) → code_at t ≡ with_at (code_at s) b (encoded (format_of s) b values)
        → state (held_by value t c) ≡ coded (format now) (state now) (with_at (state now).codes b (encoded (format now) b values))
    stored_coded b values codes =
        let f = format_now value w d s c room joined now is in
        let after = state_after value w d s c room joined t c frame fits_stored in
        let e = none_coded value (format_of t) c (code_at t) (none_held empty) (state now) lines_there counts_there in cc (codes_there)

-- what stands for its codes alone has no block in any line
pub coded_empty : (a : Held) → IsCoded a → HasEmptyLines a
unfolding coded
coded_empty a is l = ap (λ (u : State (List Bool)). u.held l) is

-- ---- arrays whose codes were lent

-- the format is told by the header
same_format : (a n : Held) → n.header ≡ a.header → format n ≡ format a
same_format a n header = ap (λ (h : Header). format_of (record { header = h; codes = n.codes })) header

-- an array that stands for other codes alone
pub coded_still : (a n : Held) (k : ℕ → List Bool) → n.header ≡ a.header → state n ≡ coded (format a) (state a) k → IsCoded n
unfolding coded
coded_still a n k header is = search (rules, same_format)

pub codes_stored : (a n : Held) (k : ℕ → List Bool) → state n ≡ coded (format a) (state a) k → (state n).codes ≡ k
unfolding coded
codes_stored a n k is = ap (λ (u : State (List Bool)). u.codes) is

abbrev pub frame : GName → Held → Frame
frame name a = record { name = name; header = a.header; lines = (state a).lines; counts = (state a).counts }

-- its lines and counts stay
pub frame_stored : (a n : Held) (k : ℕ → List Bool) (name : GName) → n.header ≡ a.header → state n ≡ coded (format a) (state a) k
    → frame name n ≡ frame name a
unfolding coded
frame_stored a n k name header is = search rules

-- an array that stands for its codes alone, with the sizes, lines and counts that another had
pub coded_after : (a n : Held) → IsCoded n → n.header ≡ a.header → (state n).lines ≡ (state a).lines → (state n).counts ≡ (state a).counts
    → state n ≡ coded (format a) (state a) (state n).codes
unfolding coded
coded_after a n is header lines counts = search (rules, same_format)

-- the same, as a caller has it whose array was lent to s, and is n when the loan has ended: r is what the calls over the codes have left
pub lent_codes : (a n : Held) (r s : MutBor Held) → IsCoded r.now → frame_of r ≡ frame_of s → s.now ≡ a → n ≡ r.now → state n ≡ coded (format a) (state a) (state n).codes
lent_codes a n r s is frame begins ends = search (rules, coded_after)
