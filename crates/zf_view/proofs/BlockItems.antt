-- The list of the blocks that an iterator has left.
use Rattle.std.proofs.Common.{◌≡◌, ℕ, ◌+◌, ◌-◌, ◌*◌, ◌<◌, List, ◌∷◌, map, length, ap, sym, ◌∙◌}
use Rattle.std.proofs.lemmas.List.{length-map}
use Rattle.zf_spec.specs.Grid.{count_from, grid, blocks, coordinates, extent_of}
use Rattle.zf_spec.proofs.Counting.{length-count_from, count_from-below}
use Rattle.zf_base.{specs.declared.position.Pos.{Pos}, specs.declared.position.Extent.{Extent}}
use Rattle.zf_base.specs.Positions.{with_unused}
use Rattle.zf_view.specs.BlockItems.{block_item, items_from}

-- as many as there are numbers left
pub length-items_from : (ns : List ℕ) (b : ℕ) → length (items_from ns b) ≡ blocks ns - b
length-items_from ns b = length-map (count_from b (blocks ns - b)) (block_item ns) ∙ length-count_from b (blocks ns - b)

same_extent : (p q : Pos) (e : Extent) → e.origin ≡ p → e.size ≡ q → e ≡ record { origin = p; size = q }
same_extent p q e origin size = ap (λ o. record { origin = o; size = e.size }) origin ∙ ap (λ s. record { origin = p; size = s }) size

-- the first is block b, and the others are those from the next one on
pub items_from-below : (ns : List ℕ) (b : ℕ) (e : Extent) → b < blocks ns → e.origin ≡ with_unused 0 (map (λ c. 4 * c) (coordinates (grid ns) b)) → e.size ≡ with_unused 1 (extent_of ns b)
    → items_from ns b ≡ (b, e) ∷ items_from ns (b + 1)
items_from-below ns b e below origin size =
    ap (map (block_item ns)) (count_from-below b (blocks ns) below) ∙ ap (λ x. (b, x) ∷ items_from ns (b + 1)) (sym (same_extent _ _ e origin size))
