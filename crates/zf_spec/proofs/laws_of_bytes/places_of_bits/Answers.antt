use Rattle.std.proofs.Common.{◌≡◌, ℕ, ◌/◌, ◌%◌, ◌^◌, ◌<◌, Bool, false, List, length, get_or, arith}
use Rattle.zf_spec.{specs.Numbers.{is_odd}, specs.Stream.{to_bytes}}
use Rattle.zf_spec.proofs.WordBits.{get_or-flat_map-field, get_or-word_bits}
use Rattle.zf_spec.proofs.Bytes.{to_bits-to_bytes, length-to_bytes}
use Rattle.zf_spec.proofs.laws_of_bytes.places_of_bits.Goals as goal

written : (bs : List Bool) (i : ℕ) → length bs % 8 ≡ 0 → i < length bs → get_or bs i false ≡ is_odd (get_or (to_bytes bs) (i / 8) 0 / 2 ^ (i % 8))
written bs i whole within =
    cc (to_bits-to_bytes bs whole, get_or-flat_map-field 8 (to_bytes bs) i false (omega arith) (omega (arith, length-to_bytes bs)))

pub returns : goal.returns
returns c = record { word = get_or-word_bits; byte = λ bytes i within. get_or-flat_map-field 8 bytes i false (omega arith) within; written = written }
