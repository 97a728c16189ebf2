-- An array is joined of its blocks.
use Rattle.std.proofs.Common.{◌≡◌, ℕ, ◌<◌, ℤ, pos, List, [], length, get_or}
use Rattle.zf_spec.specs.Grid.{product, blocks, coordinates, block_of, blocks_of}
use Rattle.zf_spec.proofs.Counting.{get_or-map-upto, from_places}
use Rattle.zf_spec.proofs.Raster.{raster-coordinates, length-coordinates}
use Rattle.zf_base.{specs.Places.{block_number, place_of}, proofs.Boxes.{is_inside-coordinates}}
use Rattle.zf_base.proofs.Places.{IsAt-position}
use Rattle.zf_parse.specs.Parsing.{values_of_blocks}
use Rattle.zf_pad.proofs.Blocks.{value_of_block}

-- a value of an array by its block and place

-- what is joined of the blocks of an array is the array
pub joined_is : (ns : List ℕ) (values : List ℤ) (found : List (List ℤ)) → length values ≡ product ns
    → ((b : ℕ) → b < blocks ns → get_or found b [] ≡ block_of ns values b) → values_of_blocks ns found ≡ values
joined_is ns values found long same =
    from_places
    (λ k. get_or (get_or found (block_number ns (coordinates ns k)) []) (place_of (coordinates ns k)) (pos 0)) (product ns) (pos 0) values long
    (λ k lt.
    let ps = coordinates ns k in
    let b = block_number ns ps in
    let p = place_of ps in
    let at = IsAt-position ns ps (length-coordinates ns k) (is_inside-coordinates ns k lt) in
    cc (same b at.block_in_array, value_of_block ns values ps b p at, raster-coordinates ns k lt))

pub values_of_blocks-blocks : (ns : List ℕ) (values : List ℤ) → length values ≡ product ns → values_of_blocks ns (blocks_of ns values) ≡ values
values_of_blocks-blocks ns values long = joined_is ns values (blocks_of ns values) long (λ b lt. get_or-map-upto (block_of ns values) (blocks ns) b [] lt)
