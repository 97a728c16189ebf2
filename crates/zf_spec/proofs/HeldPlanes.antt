-- The digits that planes hold in words.
use Rattle.std.proofs.Common.{rules, ◌≡◌, ℕ, ◌-◌, ◌*◌, ◌<◌, ◌≤◌, Bool, List, [], length, get_or, reverse, refl, ◌∙◌, arith}
use Rattle.std.proofs.lemmas.List.{get_or-map, get_or-reverse, length-take, length-map, length-reverse}
use Rattle.zf_spec.{specs.Numbers.{word_bits}, specs.HeldPlanes.{digits_held, planes_held}}
use Rattle.zf_spec.proofs.WordBits.{length-word_bits}

-- ---- the digits of one plane

pub digits_held-none : (vs : List ℕ) → digits_held 0 vs ≡ []
unfolding digits_held
digits_held-none vs = refl

pub length-digits_held : (n : ℕ) (vs : List ℕ) → n ≤ 64 * length vs → length (digits_held n vs) ≡ n
unfolding digits_held
length-digits_held n vs within = omega (arith, length-take n (word_bits vs), length-word_bits vs)

-- ---- planes, the greatest first

pub length-planes_held : (size : ℕ) (planes : List (List ℕ)) → length (planes_held size planes) ≡ length planes
unfolding planes_held
length-planes_held size planes = length-map (reverse planes) (digits_held size) ∙ length-reverse planes

-- the i-th plane from the top
pub get_or-planes_held : (size : ℕ) (planes : List (List ℕ)) (i : ℕ) (d : List Bool) → i < length planes
    → get_or (planes_held size planes) i d ≡ digits_held size (get_or planes (length planes - 1 - i) [])
unfolding planes_held
get_or-planes_held size planes i d below = search (rules, get_or-map, length-reverse, get_or-reverse)
