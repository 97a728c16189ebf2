-- The fields of the sizes, end to end.
use Rattle.std.proofs.Common.{◌≡◌, ℕ, zero, suc, ◌+◌, ◌-◌, ◌*◌, ◌/◌, ◌^◌, ◌≤◌, Bool, List, [], ◌∷◌, ◌++◌, length, map, take, drop, refl, ◌∙◌, arith, append_assoc, length-append, suc-mul}
use Rattle.std.{specs.List.{flat_map, AllByRecursion}, proofs.lemmas.List.{drop-drop}}
use Rattle.std.proofs.Math.Seq.{take-add}
use Rattle.zf_spec.{specs.Numbers.{field}, specs.Grid.{IsShape, upto}, proofs.Fields.{length-field}}
use Rattle.zf_spec.proofs.RawValues.{share}
use Rattle.zf_header.{specs.HeaderFields.{number_at, size_in}, proofs.Parts.{size_bits}}
use Rattle.zf_header.proofs.Pieces.{field-number_at_place, number_at_field, behind_piece}

-- sizes, each less 1 in a field of w bits
abbrev fields : ℕ → List ℕ → List Bool
fields w ns = flat_map (λ n. field w (n - 1)) ns

-- the n sizes that stand in such fields from a place on
abbrev pub sizes_at : ℕ → ℕ → ℕ → List Bool → List ℕ
sizes_at w at zero s = []
sizes_at w at (suc n) s = (number_at at w s + 1) ∷ sizes_at w (at + w) n s

length-fields : (w : ℕ) (ns : List ℕ) → length (fields w ns) ≡ length ns * w
length-fields w [] = omega arith
length-fields w (n ∷ ns) = length-append (field w (n - 1)) (fields w ns) ∙ omega (arith, length-field w (n - 1), length-fields w ns, suc-mul (length ns) w)

-- the fields of sizes that were read are the bits themselves
fields-sizes_at : (w at n : ℕ) (s : List Bool) → at + n * w ≤ length s → fields w (sizes_at w at n s) ≡ take (n * w) (drop at s)
fields-sizes_at w at zero s within = let none : zero * w ≡ 0 = omega arith in rw none refl
fields-sizes_at w at (suc n) s within =
    let less : number_at at w s + 1 - 1 ≡ number_at at w s = omega arith in
    let here = field-number_at_place at w s (omega arith) in
    let others = fields-sizes_at w (at + w) n s (omega arith) in
    let count : w + n * w ≡ suc n * w = omega arith in cc (drop-drop w at s, take-add w (n * w) (drop at s))

-- sizes whose fields stand at a place are read there
sizes_at-fields : (w : ℕ) (ns : List ℕ) (at : ℕ) (s after : List Bool) → AllByRecursion (λ n. 1 ≤ n) ns → AllByRecursion (λ n. n ≤ 2 ^ w) ns
    → drop at s ≡ fields w ns ++ after → sizes_at w at (length ns) s ≡ ns
sizes_at-fields w [] at s after some fit is = refl
sizes_at-fields w (n ∷ ns) at s after some fit is =
    let here : drop at s ≡ field w (n - 1) ++ (fields w ns ++ after) = is ∙ append_assoc (field w (n - 1)) (fields w ns) after in
    let size : number_at at w s + 1 ≡ n = omega (arith, number_at_field s (fields w ns ++ after) at w (n - 1) here (omega (arith, some.0, fit.0)), some.0) in
    let behind = behind_piece s (field w (n - 1)) (fields w ns ++ after) at w here (length-field w (n - 1)) in
    let others = sizes_at-fields w ns (at + w) s after some.1 fit.1 behind in cc

-- in one to four dimensions the sizes share 48 bits

-- the sizes by axis are those of the fields from bit 36 on
sizes-by_axis : (d : ℕ) (s : List Bool) → 1 ≤ d → d ≤ 4 → map (λ axis. size_in d axis s) (upto d) ≡ sizes_at (48 / d) 36 d s
sizes-by_axis (suc zero) s some four = refl
sizes-by_axis (suc (suc zero)) s some four = refl
sizes-by_axis (suc (suc (suc zero))) s some four = refl
sizes-by_axis (suc (suc (suc (suc zero)))) s some four = refl
sizes-by_axis d s some four = absurd (omega arith)

pub length-size_bits : (ns : List ℕ) → 1 ≤ length ns → length ns ≤ 4 → length (size_bits ns) ≡ 48
length-size_bits ns some four = length-fields (48 / length ns) ns ∙ share (length ns) some four

-- the fields of sizes that were read are the bits themselves
pub size_bits-sizes : (d : ℕ) (s : List Bool) → 1 ≤ d → d ≤ 4 → 84 ≤ length s → length (map (λ axis. size_in d axis s) (upto d)) ≡ d → size_bits (map (λ axis. size_in d axis s) (upto d)) ≡ take 48 (drop 36 s)
size_bits-sizes d s some four within count =
    let all = share d some four in
    rw (count, sizes-by_axis d s some four, fields-sizes_at (48 / d) 36 d s (omega arith), all) refl

-- sizes whose fields stand from bit 36 on are read
pub sizes-size_bits : (ns : List ℕ) (s after : List Bool) → IsShape ns → drop 36 s ≡ size_bits ns ++ after → map (λ axis. size_in (length ns) axis s) (upto (length ns)) ≡ ns
sizes-size_bits ns s after shape is =
    sizes-by_axis (length ns) s shape.some_dimension shape.four_at_most ∙ sizes_at-fields (48 / length ns) ns 36 s after shape.not_zero shape.fields is
