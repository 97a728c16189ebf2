-- What is read of raw values.
use Rattle.std.specs.Prelude.{ℕ, ◌≡◌, ◌+◌, ◌*◌, ◌<◌, ℤ, List, [], ◌∷◌, length, Option}
use Rattle.std.specs.Int.{Width, byte_len}
use Rattle.zf_spec.specs.Stream.{values_from}
use Rattle.zf_dev.specs.Source.{Takes, TakesSome, IsAtEnd}
use Rattle.zf_parse.specs.declared.fault.StreamFault.{StreamFault}
use Rattle.zf_parse.specs.declared.fault.StreamFault.TheVariants.{RawShort, RawLong, Read}

-- the raw bytes of so many values were read, of which the source says that it gave them, and these are the
-- values
pub record ReadsValues (w : Width) (count : ℕ) (old new : Option (List ℕ)) (gives : List ℕ → Type 0)
    (values : List ℤ) : Type 0 where
  pub bytes : List ℕ
  pub taken : Takes old new bytes
  pub given : gives bytes
  pub long : length bytes ≡ count * byte_len w
  pub are : values ≡ values_from w count bytes

-- fewer bytes than are wanted were to come, behind those before: so many in all
pub record EndsShort (before wanted : ℕ) (old new : Option (List ℕ)) (count : ℕ) : Type 0 where
  pub bytes : List ℕ
  pub taken : Takes old new bytes
  pub ended : IsAtEnd new
  pub few : length bytes < wanted
  pub count_is : count ≡ before + length bytes

-- as many bytes as are wanted were not read: there are fewer, or the source failed
abbrev pub LacksRaw : ℕ → ℕ → Option (List ℕ) → Option (List ℕ) → StreamFault → Type 0
LacksRaw before wanted old new (RawShort count) = EndsShort before wanted old new count
LacksRaw before wanted old new Read = TakesSome old new
LacksRaw before wanted old new e = ⊥

-- no end was read: a byte came, or the source failed
abbrev pub GoesOn : Option (List ℕ) → Option (List ℕ) → StreamFault → Type 0
GoesOn old new RawLong = (byte : ℕ) × Takes old new (byte ∷ [])
GoesOn old new Read = TakesSome old new
GoesOn old new e = ⊥
