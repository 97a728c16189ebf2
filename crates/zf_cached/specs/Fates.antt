-- What becomes of a block.
use Rattle.std.specs.Prelude.{ℕ, ◌≡◌, false}
use Rattle.zf_base.specs.Formats.{Format, encoded, rounded}
use Rattle.zf_cached.specs.State.{State}

-- it is as it was
pub record IsLeft {Code : Type 0} (s t : State Code) (b : ℕ) : Type 0 where
  pub dirty : t.dirty b ≡ s.dirty b
  pub values : t.values b ≡ s.values b
  pub code : t.codes b ≡ s.codes b

-- it was written back: its code is that of its values, which are what this code means, and it is clean
pub record IsRounded {Code : Type 0} (format : Format Code) (s t : State Code) (b : ℕ) : Type 0 where
  pub clean : t.dirty b ≡ false
  pub values : t.values b ≡ rounded format b (s.values b)
  pub code : t.codes b ≡ encoded format b (s.values b)
