-- An array stands for the state of its cache and its codes.
use Rattle.std.proofs.Common.{◌≡◌, refl, sym, ap, ◌∙◌, ℕ, ◌%◌, ◌^◌, ℤ, Bool, Option, List, map, length, arith, rules}
use Rattle.std.{specs.Int.{Width}, proofs.Math.ListN.{get_or-map}, proofs.lemmas.Simd.{map-map}}
use Rattle.std.{proofs.lemmas.Bool.{cases_Bool, ne_eqb}, proofs.lemmas.List.{length-map, length-replicate}}
use Rattle.zf_spec.{specs.Grid.{upto}, proofs.Counting.{map-get_or-upto}}
use Rattle.zf_base.{specs.Formats.{Format, meant}, proofs.Sizes.{blocks_le}}
use Rattle.zf_header.specs.declared.header.Header.{Header}
use Rattle.zf_cached.{specs.State.{State, no_counts}, specs.Touch.{touch}, specs.Changes.{opened}}
use Rattle.zf_cached.{specs.Arrays.{array_format}, proofs.States.{same_state}, proofs.Caching.{is_block-true}}
use Rattle.zf_cache.specs.Kept.{Kept, HasBlocks, IsClean, IsEmpty, tag_at, block_in, line_of, dirty_tag}
use Rattle.zf_cache.{specs.Standing.{state_of, values_of, Fits, state_at}, proofs.Tags.{named}}
use Rattle.zf_cache.proofs.Touches.{no_tag}
use Rattle.zf_const.specs.Standing.{Held, format, state, touched}
use Rattle.zf_const.specs.Parts.{Coded, code_at, format_of, held_by, IsJoined}

-- the blocks in the lines are those that the tags name
lines_named : (tags : List ℕ) → map (λ l. block_in (tag_at tags l)) (upto (length tags)) ≡ map block_in tags
lines_named tags = sym (map-map block_in (tag_at tags) (upto (length tags))) ∙ ap (map block_in) (map-get_or-upto tags (length tags) 0 refl)

-- no block is in any line
pub clean_empty : {X : Type 0} (c : Kept X) (n : ℕ) → IsEmpty c n → IsClean c
clean_empty c n e l = ap (λ (tags : List ℕ). tag_at tags l % 2) e ∙ ap (λ t. t % 2) (no_tag n l)

module _ {X : Type 0} (value : X → ℤ) (s : Coded) (c : Kept X) (fits : Fits value c (format_of s) (code_at s)) (clean : IsClean c) where
  -- a block has the values that its code means, whether it is in its line or not
  values_meant : (b : ℕ) → meant (format_of s) b (code_at s b) ≡ values_of value c (format_of s) (code_at s) b
  values_meant b = search (rules, cases_Bool, named, is_block-true)

  pub state_held : state (held_by value s c) ≡ state_of value c (format_of s) (code_at s)
  unfolding state state_at
  state_held =
      same_state (state (held_by value s c)) (state_of value c (format_of s) (code_at s))
      (length-map c.tags block_in)
      (λ l. get_or-map block_in c.tags l 0)
      (λ b. sym (ne_eqb (tag_at c.tags (line_of c b)) (dirty_tag b) (λ is. let even = clean (line_of c b) in omega (arith, is, even))))
      values_meant
      (λ b. refl)
      refl

-- an array as it is made
pub opens : {X : Type 0} (value : X → ℤ) (s : Coded) (c : Kept X) (n : ℕ) → IsEmpty c n → c.counts ≡ no_counts → state (held_by value s c) ≡ opened (format_of s) (code_at s) n
unfolding state opened
opens value s c n empty counts =
    let none : ℕ = 0 in
    same_state (state (held_by value s c)) (opened (format_of s) (code_at s) n)
    (length-map c.tags block_in ∙ ap length empty ∙ length-replicate n none)
    (λ l. get_or-map block_in c.tags l 0 ∙ ap (λ (tags : List ℕ). block_in (tag_at tags l)) empty ∙ ap block_in (no_tag n l))
    (λ b. refl)
    (λ b. refl)
    (λ b. refl)
    counts

-- ---- the fields of an array

module _ {X : Type 0} (value : X → ℤ) (w : Width) (d : ℕ) (s : Coded) (c : Kept X) (joined : IsJoined value w d s c) where
  pub has_blocks : HasBlocks (format_of s) d
  unfolding array_format
  has_blocks = (ap (λ k. 4 ^ k) joined.dims, omega (arith, blocks_le s.header.shape joined.header.shape.not_zero, joined.header.shape.not_too_large))

  module _ (now : Held) (is : held_by value s c ≡ now) where
    pub state_now : state now ≡ state_of value c (format_of s) (code_at s)
    state_now = sym (ap state is) ∙ state_held value s c joined.fits joined.clean

    pub format_now : format now ≡ format_of s
    format_now = sym (ap format is)

    pub header_now : now.header ≡ s.header
    header_now = sym (ap (λ (a : Held). a.header) is)

    -- what a call of the cache leaves
    module _ (t : Coded) (e : Kept X) (kept : t ≡ s) (fits : Fits value e (format_of t) (code_at t)) (clean : IsClean e) where
      pub joined_after : IsJoined value w d t e
      joined_after = search rules

      pub header_after : (held_by value t e).header ≡ now.header
      header_after = ap (λ (u : Coded). u.header) kept ∙ ap (λ (a : Held). a.header) is

      pub codes_after : (held_by value t e).codes ≡ now.codes
      codes_after = ap (λ (u : Coded). u.codes) kept ∙ ap (λ (a : Held). a.codes) is

      module _ (F : Format (List Bool) → State (List Bool) → State (List Bool)) (given : state_of value e (format_of t) (code_at t) ≡ F (format_of s) (state_of value c (format_of s) (code_at s))) where
        as_now : state_of value e (format_of t) (code_at t) ≡ F (format now) (state now)
        as_now = given ∙ ap (λ (f : Format (List Bool)). F f (state_of value c (format_of s) (code_at s))) (sym format_now) ∙ ap (F (format now)) (sym state_now)

        -- what is said of the states of caches and codes is said of those of the arrays
        pub step : state (held_by value t e) ≡ F (format now) (state now)
        step = state_held value t e fits clean ∙ as_now

      -- and the array itself is known by a touch
      pub touched_is : (b : ℕ) → state_of value e (format_of t) (code_at t) ≡ touch (format_of s) (state_of value c (format_of s) (code_at s)) b → held_by value t e ≡ touched now b
      unfolding touched state_at
      touched_is b given =
          let With : Header → List (List Bool) → State (List Bool) → Held = λ h cs u. record { header = h; codes = cs; lines = map u.held (upto u.lines); counts = u.counts } in
          let lines : held_by value t e ≡ With t.header t.codes (state_of value e (format_of t) (code_at t)) =
          ap (λ (ls : List (Option ℕ)). record { header = t.header; codes = t.codes; lines = ls; counts = e.counts }) (sym (lines_named e.tags)) in
          lines ∙ ap (With t.header t.codes) (as_now (λ f u. touch f u b) given)
          ∙ ap (λ (h : Header). With h t.codes (touch (format now) (state now) b)) header_after
          ∙ ap (λ (cs : List (List Bool)). With now.header cs (touch (format now) (state now) b)) codes_after
