-- Bits on their way through a writer to a sink.
use Rattle.std.specs.Prelude.{ℕ, ◌≡◌, ◌<◌, ◌%◌, Bool, List, ◌++◌, length, All, Option}
use Rattle.std.specs.List.{flat_map}
use Rattle.std.specs.Int.{w64, to_le_bytes}
use Rattle.zf_spec.specs.Stream.{to_bits}
use Rattle.zf_dev.specs.Sink.{Appends, AppendsPrefix}

-- the bytes of words, the least significant of each first
abbrev pub bytes_in : List ℕ → List ℕ
bytes_in words = flat_map (to_le_bytes w64) words

-- of these bits a prefix of whole words was written, as bytes, and the rest is left
pub record Flows (out_before out_now : Option (List ℕ)) (bits left : List Bool) : Type 0 where
  pub bytes : List ℕ
  pub written : Appends out_before out_now bytes
  pub small : All (λ b. b < 256) bytes
  pub words : length bytes % 8 ≡ 0
  pub parts : to_bits bytes ++ left ≡ bits

-- of these bits a prefix of whole words was to be written, and a prefix of its bytes was, maybe nothing
pub record Spills (out_before out_now : Option (List ℕ)) (bits : List Bool) : Type 0 where
  pub bytes : List ℕ
  pub written : AppendsPrefix out_before out_now bytes
  pub small : All (λ b. b < 256) bytes
  pub left : List Bool
  pub parts : to_bits bytes ++ left ≡ bits
