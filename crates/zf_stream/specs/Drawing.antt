-- What was drawn from a source. It is told twice: by what the source exposes, and, also of one that exposes
-- nothing, by what it says that it gave.
use Rattle.std.specs.Prelude.{◌≡◌, ℕ, true, List}
use Rattle.zf_dev.specs.declared.source.Source.{Ghosts as Source}
use Rattle.zf_dev.specs.Source.{Takes, TakesSome, Gives, GivesSome, IsAtEnd}

-- these bytes are gone from those to come, and the source says that it gave them
pub record Draws {A : Type 0} (S : Source A) (before now : A) (bytes : List ℕ) : Type 0 where
  pub taken : Takes (S.contents before) (S.contents now) bytes
  pub given : Gives (S.gave before) (S.gave now) bytes

-- some bytes are gone, and some were given, maybe none. After a fault it is not known that these are the same
pub record DrawsSome {A : Type 0} (S : Source A) (before now : A) : Type 0 where
  pub taken : TakesSome (S.contents before) (S.contents now)
  pub given : GivesSome (S.gave before) (S.gave now)

-- no byte is to come, and the source says that a read told so
pub record IsSpent {A : Type 0} (S : Source A) (src : A) : Type 0 where
  pub at_end : IsAtEnd (S.contents src)
  pub told : S.ended src ≡ true
