-- What holds anyhow holds after an error.
use Rattle.std.{proofs.Common.{rules, Result}, specs.Prelude.{OnErr}}

pub on_err : {T E : Type 0} (r : Result T E) (P : Type 0) → P → OnErr r P
on_err _ _ p = search rules
