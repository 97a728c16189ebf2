-- How far values were demoted, before and after.
use Rattle.std.specs.Prelude.{ℕ, ◌≡◌, List, ◌++◌, take, Option}
use Rattle.zf_dev.specs.Logs.{noted}
use Rattle.zf_dev.specs.Sink.{Appends}
use Rattle.zf_narrow.specs.declared.demotion.Demotion.{Demotion}

-- all int32 bytes that were taken
abbrev pub taken_so_far : Demotion → List ℕ
taken_so_far d = noted d.taken ++ take d.held d.value

-- some narrow bytes were written, of the same type
pub record Gives (old new : Demotion) (before now : Option (List ℕ)) : Type 0 where
  pub bytes : List ℕ
  pub written : Appends before now bytes
  pub logged : noted new.given ≡ noted old.given ++ bytes
  pub same_type : new.narrow ≡ old.narrow
