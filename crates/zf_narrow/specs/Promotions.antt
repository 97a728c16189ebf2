-- How far values were promoted, before and after.
use Rattle.std.specs.Prelude.{ℕ, ◌≡◌, ◌<◌, ◌↔◌, ◌&&◌, ◌||◌, is_none, Bool, true, false, IsTrue, List, ◌++◌, length, drop, replicate, Option}
use Rattle.zf_dev.specs.Logs.{noted}
use Rattle.zf_dev.specs.Source.{Takes, Gives}
use Rattle.zf_narrow.specs.declared.promotion.Promotion.{Promotion}
use Rattle.zf_narrow.specs.Promoting.{listed, exposed_by, TakesValues}
use Rattle.zf_narrow.specs.RawNarrow.{promoted_bytes}

-- the int32 bytes still to come, where the source exposes what is to come
abbrev pub exposed : Promotion → Option (List ℕ) → Option (List ℕ)
exposed p left = exposed_by p.narrow p.spent (drop p.at p.value) (listed p.half) left

-- all narrow bytes that were read
abbrev pub read_so_far : Promotion → List ℕ
read_so_far p = noted p.taken ++ listed p.half

-- how many zero bytes were given for half a value
abbrev pub zeros_given : Bool → List ℕ → ℕ
zeros_given false half = 0
zeros_given true half = length half

-- these are all int32 bytes that were given: those of the values that were read, but for the bytes that are
-- pending, and the zero byte
abbrev pub HasGiven : Promotion → List ℕ → Type 0
HasGiven p given = given ++ drop p.at p.value ≡ promoted_bytes p.narrow (noted p.taken) ++ replicate
    (zeros_given p.spent (listed p.half)) 0

-- so are these, and the source says, from what it had given at the start, that it gave all that were read
abbrev pub HasGivenOf : Promotion → (List ℕ → Type 0) → (List ℕ → Type 0) → List ℕ → Type 0
HasGivenOf p start gave given = HasGiven p given × Gives start gave (read_so_far p)

-- no int32 byte is to come, where the source says that a read of it gave none: nothing is left of half a
-- value, or its zero byte was given
abbrev pub is_over : Promotion → Bool → Bool
is_over p ended = ended && (is_none p.half || p.spent)

-- nothing is pending, and no zero byte was given for half a value
pub record IsIdle (p : Promotion) : Type 0 where
  pub all_given : p.at ≡ 4
  pub unspent : ¬ IsTrue p.spent

-- some narrow bytes were read, of the same type
pub record Logs (old new : Promotion) (before now : Option (List ℕ)) (gives : List ℕ → Type 0) : Type 0 where
  pub bytes : List ℕ
  pub taken : Takes before now bytes
  pub given : gives bytes
  pub logged : read_so_far old ++ bytes ≡ read_so_far new
  pub same_type : new.narrow ≡ old.narrow

-- some whole values were read, and these are their int32 bytes; all else is as it was
pub record TakesRaw (old new : Promotion) (before now : Option (List ℕ)) (gives : List ℕ → Type 0)
    (raw : List ℕ) : Type 0 where
  pub values : List ℕ
  pub taken : TakesValues old.narrow before now gives (listed old.half) (listed new.half) values
  pub logged : noted new.taken ≡ noted old.taken ++ values
  pub raw_is : raw ≡ promoted_bytes old.narrow values
  pub same_type : new.narrow ≡ old.narrow
  pub kept : new.value ≡ old.value
  pub idle : IsIdle new

-- these int32 bytes were given: they are gone from those to come, and follow those that had been given
pub record GivesRaw (old new : Promotion) (before now : Option (List ℕ)) (given : List ℕ) : Type 0 where
  pub gone : Takes (exposed old before) (exposed new now) given
  pub gave : Gives (HasGiven old) (HasGiven new) given

-- so many zero bytes were given, these, for half a value, if there is one; all else is as it was
pub record GivesHalf (old new : Promotion) (count : ℕ) (given : List ℕ) : Type 0 where
  pub given_are : given ≡ replicate (length (listed old.half)) 0
  pub count_is : count ≡ length (listed old.half)
  pub spent : IsTrue new.spent ↔ (0 < count)
  pub same_type : new.narrow ≡ old.narrow
  pub kept : new.value ≡ old.value
  pub all_given : new.at ≡ 4
  pub half : new.half ≡ old.half
  pub taken : noted new.taken ≡ noted old.taken
