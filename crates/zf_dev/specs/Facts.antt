-- What a device keeps as a fact has one proof at most.
use Rattle.std.specs.Prelude.{◌≡◌, ℕ, Bool, true, List, [], Option, Some, None}
use Rattle.std.specs.Coded.{Unit-prop, Coded-set, coded_list, coded_ℕ, coded_bool}
use Rattle.zf_dev.specs.Source.{IsAtEnd}

pub IsAtEnd-prop : (known : Option (List ℕ)) → IsProp (IsAtEnd known)
IsAtEnd-prop None = Unit-prop
IsAtEnd-prop (Some left) = Coded-set (coded_list coded_ℕ) left []

pub is_true-prop : (b : Bool) → IsProp (b ≡ true)
is_true-prop b = Coded-set coded_bool b true
