-- The values of an array are those of its stream, and stay.
use Rattle.std.proofs.Common.{◌≡◌, refl, sym, ap, ◌∙◌, ℕ, zero, suc, ℤ, pos, Bool, true, Option, Some, None, Ok, List, [], map, length, get_or}
use Rattle.zf_spec.specs.Grid.{IsShape, upto, product, blocks, coordinates, raster, is_inside}
use Rattle.zf_spec.{proofs.Counting.{get_or-map-upto}, proofs.Raster.{coordinates-raster, raster_below}}
use Rattle.zf_base.{specs.declared.position.Pos.{Pos}, specs.Positions.{used_axes, IsPosition}}
use Rattle.zf_base.{specs.Places.{block_number, place_of}, proofs.Places.{IsAt-position}}
use Rattle.zf_base.proofs.Extents.{length-used_axes}
use Rattle.zf_cached.{specs.State.{State, own_line}, specs.Placing.{direct}, proofs.Caching.{touch_by}}
use Rattle.zf_cached.specs.Touch.{write_back_line, hit, miss, touch}
use Rattle.zf_cached.specs.Changes.{write_back_lines, emptied, flush, relined}
use Rattle.zf_cache.proofs.Stands.{write_back_line-none, write_back_line-some, write_back_dirty-false}
use Rattle.zf_header.specs.declared.header.Header.{Header}
use Rattle.zf_parse.specs.Parsing.{Said, parse, values_of_blocks}
use Rattle.zf_const.specs.Standing.{Held, format, state, values_at, shape, block_at, place_at}
use Rattle.zf_const.specs.Files.{IsOpened, said}

-- the value of a position, among those of blocks
pub value_there : (ns ps : List ℕ) (f : ℕ → List ℤ) → length ps ≡ length ns → is_inside ns ps ≡ true
    → get_or (values_of_blocks ns (map f (upto (blocks ns)))) (raster ns ps) (pos 0) ≡ get_or (f (block_number ns ps)) (place_of ps) (pos 0)
value_there ns ps f long inside =
    let bs = map f (upto (blocks ns)) in
    let Of : List ℕ → ℤ = λ qs. get_or (get_or bs (block_number ns qs) []) (place_of qs) (pos 0) in
    get_or-map-upto (λ k. Of (coordinates ns k)) (product ns) (raster ns ps) (pos 0) (raster_below ns ps long inside)
    ∙ ap Of (coordinates-raster ns ps long inside)
    ∙ ap (λ (block : List ℤ). get_or block (place_of ps) (pos 0)) (get_or-map-upto f (blocks ns) (block_number ns ps) [] (IsAt-position ns ps long inside).block_in_array)

pub value_said : (bytes : List ℕ) (h : Header) (a : Held) (it : Said) (p : Pos) → IsOpened bytes h a → parse bytes ≡ Ok it → IsShape (shape a) → IsPosition (shape a) p
    → get_or ((state a).values (block_at a p)) (place_at a p) (pos 0) ≡ get_or it.values (raster (shape a) (used_axes (length (shape a)) p)) (pos 0)
unfolding state
value_said bytes h a it p opened parsed is at =
    let ns = shape a in
    let ps = used_axes (length ns) p in
    let same : said a ≡ it = cc in
    sym (value_there ns ps (values_at a) (length-used_axes (length ns) p is.four_at_most) at.inside)
    ∙ ap (λ (s : Said). get_or s.values (raster ns ps) (pos 0)) same

-- ---- nothing is written back

module _ (a : Held) where
  clean_line : (l : ℕ) → write_back_line (format a) (state a) l ≡ state a
  unfolding state
  clean_line l = by ((state a).held l) refl
    where
      by : (o : Option ℕ) → (state a).held l ≡ o → write_back_line (format a) (state a) l ≡ state a
      by None e = write_back_line-none (format a) (state a) l e
      by (Some b) e = write_back_line-some (format a) (state a) l b e ∙ write_back_dirty-false (format a) (state a) b refl

  clean_lines : (n : ℕ) → write_back_lines (format a) (state a) n ≡ state a
  unfolding write_back_lines
  clean_lines zero = refl
  clean_lines (suc n) = ap (λ (s : State (List Bool)). write_back_line (format a) s n) (clean_lines n) ∙ clean_line n

  pub values-touch : (b : ℕ) → (touch (format a) (state a) b).values ≡ (state a).values
  unfolding hit miss
  values-touch b =
      touch_by direct (format a) (state a) b (λ s. s.values ≡ (state a).values)
      (λ _. refl)
      (λ _. ap (λ (s : State (List Bool)). s.values) (clean_line (own_line (state a) b)))

  pub values-relined : (lines : ℕ) → (relined (format a) (state a) lines).values ≡ (state a).values
  unfolding relined flush emptied
  values-relined lines = ap (λ (s : State (List Bool)). s.values) (clean_lines (state a).lines)
