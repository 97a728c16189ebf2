-- What a writer of bits is seen as, and what appending is.
use Rattle.std.specs.Prelude.{ℕ, ◌+◌, ◌-◌, ◌*◌, ◌^◌, ◌<◌, ◌≤◌, ◌≡◌, Bool, false, List, ◌++◌, length, drop, replicate}
use Rattle.zf_spec.specs.Numbers.{word_bits}

-- the bits written, first bit first, and how many more fit without asking for memory
pub record Writer : Type 0 where
  pub bits : List Bool
  pub room : ℕ

-- these bits were appended, and the spare room fell by at most their number
pub record Appends (old new : Writer) (more : List Bool) : Type 0 where
  pub bits : new.bits ≡ old.bits ++ more
  pub room : old.room ≤ new.room + length more

-- how many bits more fit in words that hold so many, where the last word is kept free
abbrev pub room : List ℕ → ℕ → ℕ
room words len = 64 * length words - 64 - len

-- so many bits lie in the words, the last word is free, and behind the bits there are only zeros
pub record IsWritten (words : List ℕ) (len : ℕ) : Type 0 where
  pub within : len ≤ 64 * length words - 64
  pub small : 64 * length words < 2 ^ 63
  pub blank : drop len (word_bits words) ≡ replicate (64 * length words - len) false
