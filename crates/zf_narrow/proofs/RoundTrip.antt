-- Raw narrow bytes and the values that stand for them, there and back.
use Rattle.std.{proofs.lemmas.List.Elements.{All-map}, proofs.lemmas.List.Folds.{flat_map-map}}
use Rattle.std.proofs.Common.{rules, FitsSigned, ◌≡◌, refl, ℕ, ◌/◌, ◌%◌, ◌<◌, ℤ, List, [], ◌∷◌, All, map, length, arith}
use Rattle.std.{proofs.lemmas.Int.{ints}, proofs.lemmas.List.Elements.{All-head, All-tail}}
use Rattle.std.specs.Int.{w8, w16, w32, to_le_bytes, cast_unsigned}
use Rattle.zf_spec.{specs.Stream.{raw, values_from}, proofs.Bytes.{first_bytes-all}}
use Rattle.zf_spec.proofs.RawValues.{length-raw, values_from_fit, values_from-raw, raw-values_from}
use Rattle.zf_narrow.specs.RawNarrow.{of_signed, narrow_bytes, promoted_bytes, demoted_bytes}
use Rattle.zf_narrow.{specs.Values.{IsNarrow, width_of, size_of, promoted, demoted}, proofs.OneMore.{size_is}}
use Rattle.zf_narrow.{specs.declared.narrow.Narrow.TheVariants.{U8, U16}, proofs.Whole.{whole_count}}
use Rattle.zf_narrow.{proofs.Back.{demoted-promoted, promoted_fits}, specs.declared.narrow.Narrow.{Narrow}}

-- ---- one value

byte_unsigned : (v : ℤ) → FitsSigned w8 v → cast_unsigned w8 v < 256
byte_unsigned v fits = grind (arith, ints)

word_unsigned : (v : ℤ) → FitsSigned w16 v → cast_unsigned w16 v < 65536
word_unsigned v fits = grind (arith, ints)

-- what raw bytes say is a number of the type
of_signed_narrow : (n : Narrow) (v : ℤ) → FitsSigned (width_of n) v → IsNarrow n (of_signed n v)
of_signed_narrow U8 v fits = let below = byte_unsigned v fits in record { at_least = omega (arith, ints); at_most = omega (arith, ints) }
of_signed_narrow U16 v fits = let below = word_unsigned v fits in record { at_least = omega (arith, ints); at_most = omega (arith, ints) }
of_signed_narrow x y fits = record { at_least = omega (arith, ints, fits.sfits); at_most = omega (arith, ints, fits.sfits) }

-- and has these bytes
bytes_of_signed : (n : Narrow) (v : ℤ) → narrow_bytes n (of_signed n v) ≡ to_le_bytes (width_of n) (cast_unsigned (width_of n) v)
bytes_of_signed n v = grind arith

-- ---- values

all_narrow : (n : Narrow) (us : List ℤ) → All (λ u. FitsSigned (width_of n) u) us → All (IsNarrow n) (map (of_signed n) us)
all_narrow n us fit = All-map (IsNarrow n) (of_signed n) us (λ k d below. of_signed_narrow n _ (fit k d below))

all_fit : (n : Narrow) (vs : List ℤ) → All (IsNarrow n) vs → All (λ v. FitsSigned w32 v) (map (promoted n) vs)
all_fit n vs are = All-map (λ v. FitsSigned w32 v) (promoted n) vs (λ k d below. promoted_fits n _ (are k d below))

map_back : (n : Narrow) (vs : List ℤ) → All (IsNarrow n) vs → map (demoted n) (map (promoted n) vs) ≡ vs
map_back n [] are = refl
map_back n (v ∷ vs) are = cc (demoted-promoted n v (All-head (IsNarrow n) v vs are), map_back n vs (All-tail (IsNarrow n) v vs are))

raw_of_signed : (n : Narrow) (us : List ℤ) → raw (width_of n) (map (of_signed n) us) ≡ raw (width_of n) us
raw_of_signed n us = search (rules, flat_map-map, bytes_of_signed)

-- the raw int32 bytes of values that stand for narrow ones, as narrow bytes
demoted_raw : (n : Narrow) (vs : List ℤ) → All (IsNarrow n) vs → demoted_bytes n (raw w32 (map (promoted n) vs)) ≡ raw (width_of n) vs
demoted_raw n vs are =
    let ps = map (promoted n) vs in
    let count : length (raw w32 ps) / 4 ≡ length ps = omega (arith, length-raw w32 ps) in
    search (rules, values_from-raw, all_fit, map_back)

-- ---- bytes

-- those of whole values come back
pub demoted_bytes-promoted_bytes : (n : Narrow) (bytes : List ℕ) → length bytes % size_of n ≡ 0 → All (λ b. b < 256) bytes → demoted_bytes n (promoted_bytes n bytes) ≡ bytes
demoted_bytes-promoted_bytes n bytes whole small =
    let k = length bytes / size_of n in
    let us = values_from (width_of n) k bytes in
    let raws = demoted_raw n (map (of_signed n) us) (all_narrow n us (values_from_fit (width_of n) k bytes)) in
    cc (raws, size_is n, whole_count n (length bytes) whole, raw_of_signed n us, raw-values_from (width_of n) k bytes small, first_bytes-all bytes)
