-- The blocks of an array of one dimension: where they begin, and what is copied of a whole one, whose values stand beside one another.
use Rattle.std.proofs.Common.{rules, ◌≡◌, ℕ, ◌+◌, ◌<◌, ◌≤◌, ℤ, List, [], ◌∷◌, length, take, drop, ap, arith}
use Rattle.std.proofs.lemmas.List.{get_or-take, get_or-drop}
use Rattle.zf_spec.{specs.Grid.{product, extent_of, block_of}, specs.Codes.{existing_values}}
use Rattle.zf_base.{specs.declared.position.Pos.{Pos}, specs.declared.position.Extent.{Extent}}
use Rattle.zf_base.specs.Positions.{IsExtent}
use Rattle.zf_pad.{specs.declared.layout.Layout.{Layout}, specs.Layouts.{HasPlace, index_at}}
use Rattle.zf_pad.{specs.Rasters.{IsRasterBlock}, proofs.Blocks.{index_by_raster, block_is}}
use Rattle.zf_pad.proofs.Existing.{place_below}

-- a block is told by its place along the line
place_on_line : (ns : List ℕ) (b p : ℕ) (layout : Layout) (e : Extent) → length ns ≡ 1 → IsExtent 1 e → IsRasterBlock ns b layout e → HasPlace e p → (p < 4) × (index_at layout e p ≡ e.origin.x + p)
place_on_line (n ∷ []) b p layout e one extent h at =
    let small : p < 4 = place_below 1 e (omega arith) extent p at in
    let begins = ap (λ (o : Pos). o.x) h.origin in
    (small, omega (arith, index_by_raster (n ∷ []) b layout e h p at, begins))
place_on_line ns b p layout e one extent h at = absurd (omega arith)

-- a whole one ends before the end
pub whole_within : (ns : List ℕ) (b : ℕ) (layout : Layout) (e : Extent) → length ns ≡ 1 → IsRasterBlock ns b layout e → e.size.x ≡ 4 → e.origin.x + 4 ≤ product ns
whole_within (n ∷ []) b layout e one h four = search rules
whole_within ns b layout e one h four = absurd (omega arith)

-- four values that are taken from its begin on are the block
pub line_taken : (ns : List ℕ) (b : ℕ) (layout : Layout) (e : Extent) (values block : List ℤ) → length ns ≡ 1 → IsExtent 1 e → IsRasterBlock ns b layout e → block ≡ take 4 (drop e.origin.x values) → existing_values (extent_of ns b) block ≡ block_of ns values b
line_taken ns b layout e values block one extent h is =
    block_is ns b layout e h values block (search (rules, place_on_line, get_or-take, get_or-drop))
