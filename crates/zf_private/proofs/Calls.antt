-- What a call of the cache makes of a view.
use Rattle.std.proofs.Common.{◌≡◌, refl, sym, ap, subst, ◌∙◌, ℕ, suc, add-one, ◌^◌, ◌<◌, ℤ, pos, ◌+ℤ◌, true, eqb-true, Some, List, [], ◌∷◌, ◌++◌, map, length, get_or, set, take, drop, arith, rules}
use Rattle.std.specs.Int.{Width}
use Rattle.std.proofs.lemmas.List.{length-take-le, set_split, map-set, length-map, length-drop, drop-drop, get_or-map}
use Rattle.zf_spec.specs.Numbers.{wrap}
use Rattle.zf_base.{specs.declared.backing.Reading.{Ghosts as Reading}, specs.declared.position.Pos.{Pos}}
use Rattle.zf_base.{specs.Positions.{used_axes}, specs.Places.{IsAt}, specs.Formats.{Format, existing_of}}
use Rattle.zf_base.proofs.Formats.{existing_of-existing_of, existing_of-meant, existing_of-set, get_or-existing_of_exists}
use Rattle.zf_base.proofs.Sizes.{blocks_le}
use Rattle.zf_cached.{specs.State.{State}, specs.Placing.{direct}, proofs.Caching.{touch-left}}
use Rattle.zf_cached.specs.Touch.{soiled, touch_for_writing, with_values, touch_for_writing_at}
use Rattle.zf_cached.{specs.Acts.{Act}, specs.Views.{changed, acted, answered, IsWithin, HasOwn}}
use Rattle.zf_lines.{specs.Rows.{line_at, part, over_part, with_part}, proofs.Sizes.{over_same}}
use Rattle.zf_cache.specs.Kept.{Kept, HasBlocks, HasRow, IsIn, IsDirty, tag_at, block_in, dirty_tag, line_of}
use Rattle.zf_cache.{specs.Standing.{state_of, values_of, Fits, state_at}, proofs.Tags.{names-dirty, named}}
use Rattle.zf_cache.{specs.Steps.{with_value, put, put_at}, specs.Backed.{BackedAt}, specs.Loans.{StandsFor}}
use Rattle.zf_cache.{proofs.Steps.{part_written}, proofs.Sound.{values_here}}
use Rattle.zf_cache.proofs.Sound as sound
use Rattle.zf_private.specs.Standing.{Held, Own, block_at, place_at, state, IsOver, HasPlaces, IsWhole}
use Rattle.zf_private.{specs.Doing.{SitsOnAt, DoesAct}, proofs.Alike.{own-acted, stay-acted}}

-- the values of a block that is touched for writing are whole where they were
pub touched_whole : {Code : Type 0} (f : Format Code) (s : State Code) (b : ℕ) → existing_of f b (s.values b) ≡ s.values b
    → existing_of f b ((touch_for_writing f s b).values b) ≡ (touch_for_writing f s b).values b
unfolding touch_for_writing_at soiled
touched_whole f s b whole = let same = (touch-left direct f s b).values in ap (existing_of f b) same ∙ whole ∙ sym same

module _ {X Code : Type 0} (value : X → ℤ) where
  -- the values of a block are 0 where no place exists
  pub values_whole : (c : Kept X) (f : Format Code) (k : ℕ → Code) (b : ℕ) → existing_of f b ((state_of value c f k).values b) ≡ (state_of value c f k).values b
  unfolding state_at
  values_whole c f k b = search (rules, existing_of-existing_of, existing_of-meant)

  -- what a view that is whole has in its lines, or dirty, is its own
  pub own_state : (d : ℕ) (v : Held X) (f : Format Code) (k : ℕ → Code) → IsWhole d v → HasOwn (Own v) (state value v f k)
  unfolding state_at
  own_state d v f k whole = record {
    held = whole.own;
    dirty = λ b e. let l = line_of v.cache b in whole.own l b (ap block_in (eqb-true (tag_at v.cache.tags l) (dirty_tag b) e) ∙ names-dirty b);
  }

  -- a value put at a place that exists
  pub put-changed : (f : Format Code) (s : State Code) (b p : ℕ) (v : ℤ) → f.exists b p ≡ true → existing_of f b (s.values b) ≡ s.values b → put f s b p v ≡ changed f s b p (λ old. v)
  unfolding put_at with_value touch_for_writing_at soiled
  put-changed f s b p v exists whole =
      let t = touch_for_writing f s b in ap (with_values t b) (existing_of-set f b (t.values b) p v exists (touched_whole f s b whole))

module _ {X Code : Type 0} (value : X → ℤ) (d : ℕ) (v now : Held X) (is : v ≡ now) (whole : IsWhole d v) (f : Format Code) (k : ℕ → Code) where
  pub has_blocks : IsOver now f → HasBlocks f d
  has_blocks over = search (rules, blocks_le)

  pub fits_mine : Fits value now.cache f k → Fits value v.cache f k
  fits_mine fits = subst (λ (u : Held X). Fits value u.cache f k) (sym is) fits

  pub own_now : HasOwn (Own now) (state value now f k)
  own_now = subst (λ u. HasOwn (Own u) (state value u f k)) is (own_state value d v f k whole)

  module _ (p : Pos) (b place : ℕ) (block : b ≡ block_at v p) (at_place : place ≡ place_at v p) (at : IsAt v.shape (used_axes (length v.shape) p) b place) where
    pub block_below : IsOver now f → b < f.blocks
    block_below over = subst (λ n. b < n) (sym (subst (λ u. IsOver u f) (sym is) over).0) at.block_in_array

    pub place_below : place < 4 ^ d
    place_below = subst (λ n. place < 4 ^ n) whole.dims at.place_in_block

    pub owned_block : Own now (block_at now p) → Own v b
    owned_block own = subst (Own v) (sym block) (subst (λ u. Own u (block_at u p)) (sym is) own)

    pub exists_there : HasPlaces now f → Own now (block_at now p) → f.exists b place ≡ true
    exists_there places own = (subst (λ u. HasPlaces u f) (sym is) places) b place (owned_block own) at.place_in_block ∙ at.exists

    -- what is read there
    pub answer_is : (new : Kept X) (h : Format Code) (j : ℕ → Code) (r : ℤ) → r ≡ get_or (values_of value new h j b) place (pos 0)
        → Some r ≡ answered (state_of value new h j) (Act.get (block_at now p) (place_at now p))
    unfolding answered state_at
    answer_is new h j r e = search rules

  -- a step of the state leaves the other codes, and nothing but owned blocks in the lines
  module _ (w : Width) (new : Kept X) (h : Format Code) (j : ℕ → Code) (a : Act) (step : state_of value new h j ≡ acted w f (state value now f k) a) where
    pub others_stay : (b : ℕ) → (Own now b → ⊥) → j b ≡ k b
    unfolding state_at
    others_stay b not = ap (λ (t : State Code). t.codes b) step ∙ stay-acted f (Own now) w (state value now f k) a b own_now not

    abbrev pub after : Held X
    after = record { cache = new; shape = v.shape; first = v.first; count = v.count }

    pub still_whole : IsWithin (Own now) a → IsWhole d after
    unfolding state_at
    still_whole within =
        let own : HasOwn (Own now) (state_of value new h j) = subst (HasOwn (Own now)) (sym step) (own-acted f (Own now) w (state value now f k) a within own_now) in
        search rules

-- what the cache is called with at a position of a view's own
pub backed_at : {B X : Type 0} {R : Reading B X} {value : X → ℤ} {d : ℕ} {v now : Held X} {back : B} {p : Pos} {b place : ℕ} (is : v ≡ now) → IsWhole d v → SitsOnAt R value now back p
    → b ≡ block_at v p → place ≡ place_at v p → IsAt v.shape (used_axes (length v.shape) p) b place → BackedAt R (Fits value) d v.cache back b × (place < 4 ^ d)
backed_at {R = R} {value = value} {d = d} {v = v} {now = now} {back = back} {p = p} {b = b} {place = place} is whole sits block at_place at =
    let f = R.format back in let k = R.codes back in search (rules, fits_mine, has_blocks, block_below, place_below)

module _ {B X : Type 0} {R : Reading B X} {value : X → ℤ} {w : Width} {d : ℕ} {v now : Held X} {back past : B} {new : Kept X} (is : v ≡ now) (whole : IsWhole d v) where
  -- a call of the cache that leaves it fitting has done an act of the view
  pub does : {a : Act} → state_of value new (R.format past) (R.codes past) ≡ acted w (R.format back) (state value now (R.format back) (R.codes back)) a → Fits value new (R.format past) (R.codes past)
      → R.format past ≡ R.format back → R.kept past ≡ R.kept back → IsWithin (Own now) a → DoesAct R value w d a now back (record { cache = new; shape = v.shape; first = v.first; count = v.count }) past
  does {a} step fits format kept within =
      let f = R.format back in let k = R.codes back in let h = R.format past in let j = R.codes past in
      record {
        step = record { state = step; fits = fits; format = format; kept = kept };
        others = others_stay value d v now is whole f k w new h j a step;
        same = record { shape = ap (λ (u : Held _). u.shape) is; first = ap (λ (u : Held _). u.first) is; count = ap (λ (u : Held _). u.count) is };
        whole = still_whole value d v now is whole f k w new h j a step within;
      }

  -- at the block and the place of a position
  pub does_at : {p : Pos} {b place : ℕ} → SitsOnAt R value now back p → b ≡ block_at v p → place ≡ place_at v p → (act : ℕ → ℕ → Act)
      → state_of value new (R.format past) (R.codes past) ≡ acted w (R.format back) (state value v (R.format back) (R.codes back)) (act b place) → Fits value new (R.format past) (R.codes past)
      → R.format past ≡ R.format back → R.kept past ≡ R.kept back → IsWithin (Own now) (act (block_at now p) (place_at now p))
      → DoesAct R value w d (act (block_at now p) (place_at now p)) now back (record { cache = new; shape = v.shape; first = v.first; count = v.count }) past
  does_at sits block at_place act step fits format kept within = does (search rules) fits format kept within

-- a value of a dirty block is added to, through a loan
module _ {X Code : Type 0} (value : X → ℤ) (w : Width) (f h : Format Code) (k j : ℕ → Code) (s : State Code) (c : Kept X) (b p : ℕ) (r sum v : X)
    (same : h ≡ f) (state_is : state_of value c h j ≡ touch_for_writing f s b) (fits : Fits value c h j) (dirty : IsDirty c b) (size : HasRow c b h.block_len)
    (within : p < h.block_len) (exists : f.exists b p ≡ true) (read : get_or (line_at c.lines (line_of c b)) p r ≡ r) (sum_is : value sum ≡ wrap w (value r +ℤ value v)) where
  abbrev row : List X
  row = line_at c.lines (line_of c b)

  abbrev vals : List ℤ
  vals = (touch_for_writing f s b).values b

  here : IsIn c.tags (line_of c b) b
  here = ap block_in dirty ∙ names-dirty b

  long : length row ≡ h.block_len
  long = size.size.1 (line_of c b) size.there

  row_is : existing_of h b (map value row) ≡ vals
  row_is = sym (values_here value h c j b (line_of c b) refl (named (tag_at c.tags (line_of c b)) b here)) ∙ ap (λ (t : State Code). t.values b) state_is

  one_over : over_part row p 1 (sum ∷ []) ≡ set row p sum
  one_over =
      let in_row : p < length row = omega (arith, within, long) in
      let one : length (part row p 1) ≡ 1 = length-take-le 1 (drop p row) (omega (arith, in_row, length-drop p row)) in
      let rest : drop 1 (drop p row) ≡ drop (suc p) row = rw add-one at (drop-drop 1 p row) in
      (λ i. take p row ++ (over_same (part row p 1) (sum ∷ []) (sym one) i ++ rest i)) ∙ sym (set_split row p sum in_row)

  was : value r ≡ get_or vals p (pos 0)
  was = search (rules, long, get_or-map, get_or-existing_of_exists, row_is)

  written : existing_of h b (map value (over_part row p 1 (sum ∷ []))) ≡ existing_of h b (set vals p (value sum))
  written = search (rules, one_over, map-set, sound.existing_of-set, length-map, long, row_is)

  abbrev lent : Kept X
  lent = record c { lines = with_part c.lines (line_of c b) p 1 (sum ∷ []) }

  stands : StandsFor value lent h j (with_values (state_of value c h j) b (existing_of h b (map value (over_part row p 1 (sum ∷ [])))))
  stands = part_written value h j c b p 1 (sum ∷ []) fits dirty size.there

  pub added : existing_of f b vals ≡ vals → Fits value lent h j × (state_of value lent h j ≡ changed f s b p (λ old. wrap w (old +ℤ value v)))
  added whole = search (rules, stands, written, existing_of-set, was)
