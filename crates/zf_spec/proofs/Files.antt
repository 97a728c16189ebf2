-- How long a file is whose codes all have one length.
use Rattle.std.proofs.Common.{rules, ◌≡◌, ℕ, ◌+◌, ◌*◌, Bool, List, [], ◌∷◌, map, length, arith, suc-mul}
use Rattle.std.{specs.Int.{Width, div_ceil}, specs.List.{flat_map}, proofs.lemmas.List.{length-append}}
use Rattle.zf_spec.{specs.Stream.{Mode, header, file}, proofs.Bytes.{length-to_bytes, length-filled_bytes}}

-- codes of one length, end to end
pub length-codes : {X : Type 0} (code : X → List Bool) (n : ℕ) (xs : List X) → ((x : X) → length (code x) ≡ n) → length (flat_map (λ c. c) (map code xs)) ≡ length xs * n
length-codes code n [] each = omega arith
length-codes code n (x ∷ xs) each =
    let rest = length-codes code n xs each in search (rules, length-append, each, suc-mul)

pub length-file : {X : Type 0} (w : Width) (ns : List ℕ) (mode : Mode) (code : X → List Bool) (n : ℕ) (xs : List X) → ((x : X) → length (code x) ≡ n)
    → length (file w ns mode (map code xs)) ≡ 8 * div_ceil (length (header w ns mode) + length xs * n) 64
unfolding file
length-file w ns mode code n xs each = search (rules, length-append, length-codes, length-to_bytes, length-filled_bytes)
