-- Which sizes are no shape, and why.
use Rattle.std.specs.Prelude.{ℕ, ◌/◌, ◌^◌, ◌==◌, nat_lt, List, length, Option, Some, None, if◌then◌else◌}
use Rattle.std.specs.List.{list_any}
use Rattle.zf_spec.specs.Grid.{product, max_values}
use Rattle.zf_base.specs.declared.shape.ShapeFault.{ShapeFault}
use Rattle.zf_base.specs.declared.shape.ShapeFault.TheVariants.{Zero, Field, TooLarge}

-- the first of: a size is zero; a size is more than its field of the header holds; there are too many values
abbrev pub shape_fault : List ℕ → Option ShapeFault
shape_fault ns =
    if list_any (λ n. n == 0) ns then Some Zero
    else (if list_any (λ n. nat_lt (2 ^ (48 / length ns)) n) ns then Some Field
    else (if nat_lt max_values (product ns) then Some TooLarge else None))
