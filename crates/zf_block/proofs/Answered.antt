-- What follows of an answer that may be nothing.
use Rattle.std.{proofs.Common.{◌≡◌, Option, Some, None}, proofs.lemmas.Option.{none-some}}
use Rattle.std.specs.Prelude.{OnSome}

pub when_some : {T : Type 0} {P : Type 0} (r : Option T) (x : T) → r ≡ Some x → OnSome r P → P
when_some None x e h = absurd (none-some x e)
when_some (Some y) x e h = h
