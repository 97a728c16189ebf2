-- What a device keeps as a fact has one proof at most.
use Rattle.std.specs.Prelude.{ℕ, List, ◌++◌, Option, Some, None}
use Rattle.std.specs.Coded.{Unit-prop, Coded-set, coded_list, coded_ℕ}
use Rattle.zf_dev.specs.Source.{Takes}
use Rattle.zf_dev.specs.Sink.{Appends}

pub Takes-prop : (old new : Option (List ℕ)) (bytes : List ℕ) → IsProp (Takes old new bytes)
Takes-prop None new bytes = Unit-prop
Takes-prop (Some before) None bytes = λ p q. absurd p
Takes-prop (Some before) (Some now) bytes = Coded-set (coded_list coded_ℕ) before (bytes ++ now)

pub Appends-prop : (old new : Option (List ℕ)) (bytes : List ℕ) → IsProp (Appends old new bytes)
Appends-prop None new bytes = Unit-prop
Appends-prop (Some before) None bytes = λ p q. absurd p
Appends-prop (Some before) (Some now) bytes = Coded-set (coded_list coded_ℕ) now (before ++ bytes)
