-- A source of narrow bytes that gives raw int32 bytes.
use Rattle.std.specs.Prelude.{ℕ, ◌≡◌, ◌%◌, Bool, true, false, List, [], ◌∷◌, ◌++◌, length, Option, Some, None}
use Rattle.zf_dev.specs.Source.{Takes}
use Rattle.zf_narrow.specs.declared.narrow.Narrow.{Narrow}
use Rattle.zf_narrow.specs.Values.{size_of}
use Rattle.zf_narrow.specs.RawNarrow.{promoted_all}

-- a byte that is there, or none
abbrev pub listed : Option ℕ → List ℕ
listed None = []
listed (Some byte) = byte ∷ []

-- the raw int32 bytes of what is still to come, behind the first byte of a value or none; nothing once the
-- zero byte for half a value was given
abbrev pub coming : Narrow → Bool → List ℕ → List ℕ → List ℕ
coming n true half left = []
coming n false half left = promoted_all n (half ++ left)

-- the same behind bytes that are pending, where the source exposes what is to come
abbrev pub exposed_by : Narrow → Bool → List ℕ → List ℕ → Option (List ℕ) → Option (List ℕ)
exposed_by n spent pending half None = None
exposed_by n spent pending half (Some left) = Some (pending ++ coming n spent half left)

-- some bytes were taken, which the source says that it gave, and which are these whole values, but for the
-- first byte of a value before them and behind them
pub record TakesValues (n : Narrow) (before now : Option (List ℕ)) (gives : List ℕ → Type 0)
    (half_before half_now values : List ℕ) : Type 0 where
  pub bytes : List ℕ
  pub taken : Takes before now bytes
  pub given : gives bytes
  pub parts : half_before ++ bytes ≡ values ++ half_now
  pub whole : length values % size_of n ≡ 0

-- so many bytes were taken, which the source says that it gave, and stand behind those from before
pub record ReadsBehind (before now : Option (List ℕ)) (gives : List ℕ → Type 0) (prefix all : List ℕ)
    (count : ℕ) : Type 0 where
  pub bytes : List ℕ
  pub taken : Takes before now bytes
  pub given : gives bytes
  pub all_are : all ≡ prefix ++ bytes
  pub count_is : length bytes ≡ count
