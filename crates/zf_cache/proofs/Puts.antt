-- A value put into the line of a dirty block.
use Rattle.std.proofs.Common.{◌≡◌, refl, ap, ◌∙◌, ℕ, ◌<◌, ℤ, List, map, length, set, rules}
use Rattle.std.proofs.lemmas.List.{length-set, length-map, map-set}
use Rattle.zf_base.specs.Formats.{Format, existing_of}
use Rattle.zf_cached.{specs.State.{State}, specs.Touch.{with_values}}
use Rattle.zf_lines.{specs.Rows.{line_at, over}, proofs.Sizes.{length-over, over_same}}
use Rattle.zf_cache.{specs.declared.body.Body.{Body}, specs.Kept.{IsIn, tag_at, block_in, dirty_tag}}
use Rattle.zf_cache.{specs.Rules.{IsRule}, specs.Bodies.{IsSound, kept_of, counts_of}}
use Rattle.zf_cache.{specs.Standing.{state_at}, specs.Steps.{with_value}, proofs.Tags.{names-dirty, named}}
use Rattle.zf_cache.proofs.Sound.{writes_row, values_there, existing_of-set}

module _ (place : ℕ → List ℕ → ℕ → ℕ) (may_hold : ℕ → ℕ → ℕ → Type 0) (rule : IsRule place may_hold) {X Code : Type 0} (value : X → ℤ)
    (t d : Body X) (h f : Format Code) (j : ℕ → Code) (b l : ℕ) (s : State Code) (sound : IsSound place value t h j) (same : h ≡ f)
    (lt : l < length t.tags.items) (dirty : tag_at t.tags.items l ≡ dirty_tag b) (state : state_at place value (kept_of t) h j ≡ s) where
  pub puts_sound : (line : List X) (p : ℕ) (v : X) → d.lines ≡ record t.lines { blocks = set t.lines.blocks l (over (line_at t.lines.blocks l) (set line p v)) } → d.tags.items ≡ t.tags.items → d.counts ≡ t.counts → IsSound place value d h j
  puts_sound line p v lines tags counts =
      let old = line_at t.lines.blocks l in
      (writes_row place may_hold rule value t d h h j j refl sound l lt b (over old (set line p v)) (length-over old (set line p v) ∙ sound.whole.size.1 l lt) dirty lines tags (ap counts_of counts) refl).0

  pub puts : (line : List X) (p : ℕ) (v : X) → line ≡ line_at t.lines.blocks l → p < h.block_len → d.lines ≡ record t.lines { blocks = set t.lines.blocks l (over (line_at t.lines.blocks l) (set line p v)) } → d.tags.items ≡ t.tags.items → d.counts ≡ t.counts
      → state_at place value (kept_of d) h j ≡ with_value f s b p (value v)
  unfolding with_value
  puts line p v is at lines tags counts =
      let old = line_at t.lines.blocks l in
      let row = over old (set line p v) in
      let row_is : row ≡ set old p v = ap (λ r. over old (set r p v)) is ∙ over_same old (set old p v) (length-set old p v) in
      let long : length row ≡ h.block_len = length-over old (set line p v) ∙ sound.whole.size.1 l lt in
      let there : IsIn t.tags.items l b = ap block_in dirty ∙ names-dirty b in
      let here = values_there place value h (kept_of t) j b l (sound.fits.own l b there).0 (named (tag_at t.tags.items l) b there) in
      let values : existing_of h b (map value row) ≡ existing_of h b (set ((state_at place value (kept_of t) h j).values b) p (value v)) = search (rules, map-set, existing_of-set, length-map) in
      (writes_row place may_hold rule value t d h h j j refl sound l lt b row long dirty lines tags (ap counts_of counts) refl).1
      ∙ ap (with_values (state_at place value (kept_of t) h j) b) values
      ∙ (λ i. with_values (state i) b (existing_of (same i) b (set ((state i).values b) p (value v))))
