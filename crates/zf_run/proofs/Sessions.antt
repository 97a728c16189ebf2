-- A session after a call.
use Rattle.std.proofs.Common.{rules, ◌≡◌, refl, sym, ap, subst, ◌∙◌, ℕ, ◌^◌, ℤ, pos, Bool, List, None, map, length, get_or, set, replicate, to_z, of_z}
use Rattle.std.{specs.Int.{Width, w128}, proofs.lemmas.Int.{to_z-of_z}, proofs.lemmas.List.{length-replicate}}
use Rattle.zf_spec.specs.Grid.{IsShape, extent_of}
use Rattle.zf_base.{specs.declared.position.Extent.{Extent}, specs.Positions.{used_axes, IsExtent}, proofs.Sizes.{blocks_le}}
use Rattle.zf_base.{specs.Widths.{width_of}, specs.Formats.{Format, existing_of}, specs.Places.{block_number, place_of}}
use Rattle.zf_base.specs.declared.lane.Ty.{Ty}
use Rattle.zf_header.{specs.declared.header.Header.{Header}, specs.declared.header.Mode.{Mode}, specs.HeaderBits.{block_bits}}
use Rattle.zf_cached.{specs.State.{State}, specs.Placing.{Line, direct}, specs.Windows.{Window}}
use Rattle.zf_cached.specs.Arrays.{Coding, rate_coding, array_format}
use Rattle.zf_cached.specs.Touch.{soiled, touch_at, touch_for_writing_at, with_values}
use Rattle.zf_cached.{specs.Changes.{flush, discard, raised, relined}, specs.Commands.{Command}}
use Rattle.zf_cached.specs.Steps.{Setting, Session, format_of, touched, changed, changed_at, done, total}
use Rattle.zf_cached.specs.Runs.{array_setting, look_setting}
use Rattle.zf_window.{specs.Bounds.{IsUpTo}, proofs.Bounds.{up_to_fits}}
use Rattle.zf_commands.{specs.Sums.{within}, specs.Sittings.{session}, specs.Steps.{Fills}}
use Rattle.zf_commands.proofs.Passing.{within_is, up_to_less, filled_line}
use Rattle.zf_lines.specs.Rows.{over}
use Rattle.zf_cache.specs.Kept.{HasBlocks}
use Rattle.zf_twoway.{specs.Placing.{two_lines}, specs.Runs.{twoway_setting}}
use Rattle.zf_const.specs.Standing.{coding_of}
use Rattle.zf_run.specs.Sessions.{IsArray}

-- an array with the same header, and two references that are the same
abbrev pub with_names : {K N : Type 0} → N → N → K → K × N × N
with_names m n k = (k, m, n)

pub same_whole : {N : Type 0} (m n : N) (g h : Header) → h ≡ g → with_names {K = Ty × Mode} m n (h.ty, h.mode) ≡ with_names {K = Ty × Mode} m n (g.ty, g.mode)
same_whole m n g h head = λ i. (((head i).ty, (head i).mode), m, n)

-- and it is an array of the same type and dimensions
pub still_array : (w : Width) (d : ℕ) (g h : Header) → h ≡ g → IsArray w d g → IsArray w d h
still_array w d g h head is = subst (IsArray w d) (sym head) is

-- ---- what a setting says of an array with a header: the line of a block, and the format

pub record Suits {Code : Type 0} (line : Line) (f : Format Code) (setting : Setting Code) (h : Header) : Type 0 where
  pub touches : setting.touch ≡ touch_at line
  pub coded : array_format setting.coding h.shape ≡ f

-- the format at a rate
abbrev pub rate_format : Header → Format (List Bool)
rate_format h = array_format (rate_coding (width_of h.ty) (block_bits h.mode)) h.shape

module _ (w : Width) (h : Header) where
  of_width : Width → Format (List Bool)
  of_width u = array_format (rate_coding u (block_bits h.mode)) h.shape

  pub array_suits : w ≡ width_of h.ty → Suits direct (rate_format h) (array_setting w (block_bits h.mode)) h
  unfolding array_setting of_width
  array_suits same = record { touches = refl; coded = ap of_width same }

  pub two_suits : w ≡ width_of h.ty → Suits two_lines (rate_format h) (twoway_setting w (block_bits h.mode)) h
  unfolding twoway_setting of_width
  two_suits same = record { touches = refl; coded = ap of_width same }

  pub look_suits : Suits direct (array_format (coding_of h) h.shape) (look_setting w (coding_of h)) h
  unfolding look_setting
  look_suits = record { touches = refl; coded = refl }

-- its blocks are such as a cache takes
pub rate_blocks : (w : Width) (d : ℕ) (h : Header) → IsArray w d h → HasBlocks (rate_format h) d
unfolding array_format
rate_blocks w d h is = search (rules, blocks_le)

-- a line of a block that was filled
pub filled_alike : {X : Type 0} (value : X → ℤ) (row ws : List X) (v : X) (n : ℕ) → ws ≡ replicate (length row) v → length row ≡ n → map value (over row ws) ≡ replicate n (value v)
filled_alike value row ws v n is long = filled_line value row ws v is (ap length is ∙ length-replicate (length row) v) ∙ ap (λ m. replicate m (value v)) long

-- ---- a call that leaves the header, in the state s, and leads to the state t

module _ {Code : Type 0} {line : Line} {f : Format Code} {setting : Setting Code} {g h : Header} {t : State Code} {v : Window} (s : State Code) where
  stepped : (step : Format Code → State Code) → t ≡ step f → Suits line f setting g → h ≡ g → record (session g.shape s v) { state = step (format_of setting (session g.shape s v)) } ≡ session h.shape t v
  stepped step is suits head = λ i. record { shape = (sym head i).shape; state = (ap step suits.coded ∙ sym is) i; window = v; split = None }

  -- a touch of block k, and then another change of the state
  touched_then : (k : ℕ) (more : State Code → State Code) → t ≡ more (touch_at line f s k) → Suits line f setting g → h ≡ g
      → record (session g.shape s v) { state = more (setting.touch (format_of setting (session g.shape s v)) s k) } ≡ session h.shape t v
  touched_then k more is suits head =
      stepped (λ e. more (setting.touch e s k)) (is ∙ ap (λ (touch : Format Code → State Code → ℕ → State Code). more (touch f s k)) (sym suits.touches)) suits head

  pub touched_is : (k : ℕ) → t ≡ touch_at line f s k → Suits line f setting g → h ≡ g → touched setting (session g.shape s v) k ≡ session h.shape t v
  unfolding touched
  touched_is k is suits head = touched_then k (λ u. u) is suits head

  changed_is : (k : ℕ) (change : List ℤ → List ℤ) → t ≡ (let u = touch_for_writing_at line f s k in with_values u k (change (u.values k))) → Suits line f setting g → h ≡ g
      → changed setting (session g.shape s v) k change ≡ session h.shape t v
  unfolding touched changed touch_for_writing_at
  changed_is k change is suits head = touched_then k (λ u. with_values (soiled u k) k (change ((soiled u k).values k))) is suits head

  -- the value at a position is changed, which is that at place p of block b
  pub changed_there : (ps : List ℕ) (b p : ℕ) (change : ℤ → ℤ) → t ≡ (let u = touch_for_writing_at line f s b in with_values u b (set (u.values b) p (change (get_or (u.values b) p (pos 0)))))
      → Suits line f setting g → h ≡ g → b ≡ block_number g.shape ps → p ≡ place_of ps → changed_at setting (session g.shape s v) ps change ≡ session h.shape t v
  unfolding changed_at
  changed_there ps b p change is suits head block place =
      (λ i. changed setting (session g.shape s v) (sym block i) (λ values. set values (sym place i) (change (get_or values (sym place i) (pos 0)))))
      ∙ changed_is b (λ values. set values p (change (get_or values p (pos 0)))) is suits head

  -- all values of block k become x
  pub filled_is : (k : ℕ) (x : ℤ) (vs : List ℤ) → t ≡ with_values (touch_for_writing_at line f s k) k (existing_of f k vs) → vs ≡ replicate f.block_len x → Suits line f setting g → h ≡ g → Fills setting k x (session g.shape s v) (session h.shape t v)
  filled_is k x vs is alike suits head =
      ap (λ (e : Format Code). changed setting (session g.shape s v) k (λ values. existing_of e k (replicate e.block_len x))) suits.coded
      ∙ changed_is k (λ values. existing_of f k (replicate f.block_len x)) (is ∙ ap (λ (us : List ℤ). with_values (touch_for_writing_at line f s k) k (existing_of f k us)) alike) suits head

  pub lined_is : (n : ℕ) → t ≡ relined f s (raised n) → Suits line f setting g → h ≡ g → done setting (session g.shape s v) (Command.lines n) ≡ (session h.shape t v, None)
  unfolding done
  lined_is n is suits head = λ i. (stepped (λ e. relined e s (raised n)) is suits head i, None)

  pub flushed_is : t ≡ flush f s → Suits line f setting g → h ≡ g → done setting (session g.shape s v) Command.flush ≡ (session h.shape t v, None)
  unfolding done
  flushed_is is suits head = λ i. (stepped (λ e. flush e s) is suits head i, None)

  pub discarded_is : t ≡ discard f s → Suits line f setting g → h ≡ g → done setting (session g.shape s v) Command.discard ≡ (session h.shape t v, None)
  unfolding done
  discarded_is is suits head = λ i. (stepped (λ e. discard e s) is suits head i, None)

-- the sum of the values of a block within its extents, as one of 128 bits
pub sum_is : {Code : Type 0} (coding : Coding Code) (ms ns : List ℕ) (dim b : ℕ) (e : Extent) (vs : List ℤ) (sum : ℤ) → ms ≡ ns → IsShape ns → length ns ≡ dim → IsExtent (length ms) e
    → used_axes (length ms) e.size ≡ extent_of ms b → length vs ≡ 4 ^ dim → IsUpTo (2 ^ 71) sum → sum ≡ total (within e.size vs)
    → to_z w128 (of_z w128 sum) ≡ total (existing_of (array_format coding ns) b vs)
sum_is coding ms ns dim b e vs sum same sizes dims extent used long bound is = search (rules, to_z-of_z, up_to_fits, up_to_less, within_is)
