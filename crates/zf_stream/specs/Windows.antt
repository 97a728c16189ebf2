-- A window of a stream: the bits of it that are held, of which some were read.
use Rattle.std.specs.Prelude.{ℕ, ◌≡◌, ◌+◌, ◌*◌, ◌%◌, ◌^◌, ◌<◌, ◌≤◌, Bool, true, false, List, ◌++◌, length}
use Rattle.std.specs.Prelude.{Result, OnOk, OnErr}
use Rattle.zf_spec.specs.Stream.{to_bits}
use Rattle.zf_bits.specs.Reader.{Reader, rest}
use Rattle.zf_dev.specs.declared.source.Source.{Ghosts as Source}
use Rattle.zf_parse.specs.declared.fault.StreamFault.{StreamFault}
use Rattle.zf_stream.specs.Outcomes.{ReadsOnly}
use Rattle.zf_stream.specs.Drawing.{Draws, DrawsSome, IsSpent}

-- the bits held and the place among them, the room in words, and whether the source is known to be at its end
pub record Window : Type 0 where
  pub reader : Reader
  pub room : ℕ
  pub ended : Bool

-- so many bits are held in words; where the source is not known to be at its end, these are whole words
pub record IsHeld (words : List ℕ) (bits at : ℕ) (ended : Bool) : Type 0 where
  pub within : bits ≤ 64 * length words
  pub at_within : at ≤ bits
  pub small : 64 * length words < 2 ^ 63
  pub whole : ended ≡ false → bits % 64 ≡ 0

-- the bits that are held and not read yet
abbrev pub left_of : Window → List Bool
left_of window = rest window.reader

-- what the window knows of the end of its source is so
abbrev pub KnowsEnd : {A : Type 0} → Source A → Window → A → Type 0
KnowsEnd S window src = window.ended ≡ true → IsSpent S src

-- these bytes were drawn from the source behind the bits that were left; of all these, what is left now is
-- counted from a place that has moved by whole words
pub record Goes {A : Type 0} (S : Source A) (src_before src_now : A) (old new : Window)
    (bytes : List ℕ) : Type 0 where
  pub drawn : Draws S src_before src_now bytes
  pub moved : ℕ
  pub place : old.reader.at + length (left_of old ++ to_bits bytes) ≡ new.reader.at + 64 * moved + length
      (left_of new)

-- no bit was read, and what was drawn from the source follows the bits that were left
pub record Refills {A : Type 0} (S : Source A) (src_before src_now : A) (old new : Window) : Type 0 where
  pub bytes : List ℕ
  pub goes : Goes S src_before src_now old new bytes
  pub bits : left_of new ≡ left_of old ++ to_bits bytes
  pub room : new.room ≡ old.room

-- the window was refilled, or the source failed, and nothing else did: then some bytes were drawn
pub record Reaches {A : Type 0} (S : Source A) (result : Result (Unit {0}) StreamFault)
    (src_before src_now : A) (old new : Window) : Type 0 where
  pub ok : OnOk result (Refills S src_before src_now old new)
  pub ended : OnOk result (KnowsEnd S new src_now)
  pub drawn : OnErr result (DrawsSome S src_before src_now)
  pub source : ReadsOnly S result src_before src_now
