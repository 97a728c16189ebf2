-- The values that are made of a number (this project's own). The words are those of SplitMix64 (Steele, Lea
-- and Flood).
use Rattle.std.specs.Prelude.{ℕ, zero, suc, ◌/◌, ℤ, pos, List, [], ◌∷◌, map}
use Rattle.std.specs.Int.{Width}
use mir.Val.{bits}
use Rattle.rand_core.specs.Stream.{Stream, next_u64}
use Rattle.rand_core.specs.Steps.{stream_of}
use Rattle.rand_xoshiro.specs.SplitMix64.{splitmix_steps}
use Rattle.zf_spec.specs.Numbers.{wrap, floor_half}

-- the generator that begins at this number
abbrev pub generator : ℕ → Stream
generator seed = stream_of splitmix_steps seed

-- the first n words of 64 bits that a generator gives
abbrev pub words : ℕ → Stream → List ℕ
words zero s = []
words (suc n) s = (next_u64 s).0 ∷ words n (next_u64 s).1

-- a number halved k times, rounding down
abbrev pub halved : ℕ → ℤ → ℤ
halved zero v = v
halved (suc k) v = halved k (floor_half v)

-- the value of a word: its lowest bits as a number of the type, halved half as often as the type has bits
abbrev pub value_of_word : Width → ℕ → ℤ
value_of_word w word = halved (bits w / 2) (wrap w (pos word))

-- n values of this type
abbrev pub made_values : Width → ℕ → ℕ → List ℤ
made_values w n seed = map (value_of_word w) (words n (generator seed))
