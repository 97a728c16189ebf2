-- The codes of one block, and what reading them gives.
--     A block has 4^d values by place; its extents are a list of d numbers from 1 to 4.
use Rattle.std.specs.Prelude.{ℕ, ◌+◌, ◌-◌, ◌^◌, min, max, ℤ, pos, Bool, nat_lt, List, ◌++◌, map, length, take, drop, slice_index_or, if◌then◌else◌}
use Rattle.std.specs.declared.option.Option.{Option}
use Rattle.std.specs.Prelude.{Some, None}
use Rattle.std.specs.Int.{Width}
use mir.Val.{bits}
use Rattle.zf_spec.specs.Numbers.{digits, value_of, field, number}
use Rattle.zf_spec.specs.Grid.{places, indices, is_inside}
use Rattle.zf_spec.specs.Padding.{pad}
use Rattle.zf_spec.specs.Lorenzo.{lorenzo, unlorenzo}
use Rattle.zf_spec.specs.Lift.{lift, unlift}
use Rattle.zf_spec.specs.Ranks.{by_rank, by_place}
use Rattle.zf_spec.specs.Planes.{planes_of, digits_in_planes, needed_planes, code}
use Rattle.zf_spec.specs.Kept.{kept_planes}
use Rattle.zf_spec.specs.ReadPlanes.{planes_in, first_bits}

-- the planes of coefficients by place, the greatest first
abbrev pub planes : Width → ℕ → List ℤ → List (List Bool)
planes w d coefficients = planes_of (bits w) (map (digits (bits w)) (by_rank d coefficients))

-- the coefficients by place that planes stand for; planes that are missing below are zero
abbrev pub coefficients_of : Width → ℕ → List (List Bool) → List ℤ
coefficients_of w d planes = by_place d (map (value_of w) (digits_in_planes (bits w) (4 ^ d) planes))

-- how many bits hold the count of planes: 5 for int32, 6 for int64 (this project's own)
abbrev pub count_bits : Width → ℕ
count_bits w = if nat_lt 32 (bits w) then 6 else 5

-- a reversible code (this project's own layout): the count of planes down to the lowest that has a one, at
-- least 1, less 1; then the code of these planes
unfoldable pub rev_of_planes : Width → List (List Bool) → List Bool
rev_of_planes w ps = let p = max 1 (needed_planes ps) in field (count_bits w) (p - 1) ++ code (take p ps)

unfoldable pub rev : Width → List ℕ → List ℤ → List Bool
rev w es block = let d = length es in rev_of_planes w (planes w d (lorenzo w d (pad es block)))

-- a fixed-rate code: the first bits of the code of all planes, filled with zeros (Lindstrom 2014)
unfoldable pub rate : Width → ℕ → List ℕ → List ℤ → List Bool
rate w budget es block = let d = length es in first_bits budget (code (planes w d (lift w d (pad es block))))

-- a fixed-precision code: the code of so many planes from the top, of all where the precision is more (zfp
-- 1.0 documentation)
unfoldable pub prec : Width → ℕ → List ℕ → List ℤ → List Bool
prec w p es block = let d = length es in code (take (min p (bits w)) (planes w d (lift w d (pad es block))))

-- a block's values at the places that exist, 0 at the others
unfoldable pub existing_values : List ℕ → List ℤ → List ℤ
existing_values es block = map (λ p. if is_inside es (indices (length es) p) then slice_index_or block p
    (pos 0) else pos 0) (places (length es))

-- what a fixed rate makes of a block: what the budget keeps of its planes, put through the inverse transform;
-- no code occurs
unfoldable pub round : Width → ℕ → List ℕ → List ℤ → List ℤ
round w budget es block =
    let d = length es in
    existing_values es (unlift w d (coefficients_of w d
    (kept_planes budget (planes w d (lift w d (pad es block))))))

-- what a fixed precision makes of a block: its top planes kept whole and all others zero, put through the
-- inverse transform
unfoldable pub round_prec : Width → ℕ → List ℕ → List ℤ → List ℤ
round_prec w p es block =
    let d = length es in
    existing_values es (unlift w d (coefficients_of w d
    (take (min p (bits w)) (planes w d (lift w d (pad es block))))))

-- what reading a rate code of these bits gives
unfoldable pub read_rate : Width → List ℕ → List Bool → List ℤ
read_rate w es s =
    let d = length es in
    existing_values es (unlift w d (coefficients_of w d
    (kept_planes (length s) (planes_in (bits w) (4 ^ d) s))))

-- what reading a reversible code at the front of these bits gives: the block and the number of bits that it
-- takes, or nothing where a bit past the end is needed
unfoldable pub read_rev : Width → List ℕ → List Bool → Option (List ℤ × ℕ)
read_rev w es s =
    let d = length es in
    let rest = drop (count_bits w) s in
    let ps = planes_in (number (take (count_bits w) s) + 1) (4 ^ d) rest in
    let len = length (code ps) in
    if nat_lt (length s) (count_bits w + len) then None
    else Some (existing_values es (unlorenzo w d (coefficients_of w d ps)), count_bits w + len)

-- what reading a fixed-precision code at the front of these bits gives, or nothing where a bit past the end
-- is needed
unfoldable pub read_prec : Width → ℕ → List ℕ → List Bool → Option (List ℤ × ℕ)
read_prec w p es s =
    let d = length es in
    let ps = planes_in (min p (bits w)) (4 ^ d) s in
    let len = length (code ps) in
    if nat_lt (length s) len then None
    else Some (existing_values es (unlift w d (coefficients_of w d ps)), len)
