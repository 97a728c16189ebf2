-- How what a source gave adds up over several calls.
use Rattle.std.proofs.Common.{ℕ, List, [], ◌++◌, sym, subst, append_assoc, append-nil}
use Rattle.zf_dev.specs.Source.{Gives}

-- nothing was given
pub Gives-none : (known : List ℕ → Type 0) → Gives known known []
Gives-none known = record { goes_on = λ so_far gave. subst known (sym (append-nil so_far)) gave }

-- some bytes were given, and then some more
pub Gives-append : {old mid new : List ℕ → Type 0} (first next : List ℕ) → Gives old mid first → Gives mid new next → Gives old new (first ++ next)
Gives-append {old} {mid} {new} first next a b = record {
  goes_on = λ so_far gave. subst new (append_assoc so_far first next) (b.goes_on (so_far ++ first) (a.goes_on so_far gave));
}

-- and then nothing more
pub Gives-still : {old mid new : List ℕ → Type 0} (bytes : List ℕ) → Gives old mid bytes → Gives mid new [] → Gives old new bytes
Gives-still {old} {mid} {new} bytes a b = record { goes_on = λ so_far gave. subst new (append-nil (so_far ++ bytes)) (b.goes_on (so_far ++ bytes) (a.goes_on so_far gave)) }

-- or nothing before
pub Gives-from : {old mid new : List ℕ → Type 0} (bytes : List ℕ) → Gives old mid [] → Gives mid new bytes → Gives old new bytes
Gives-from {old} {mid} {new} bytes a b = Gives-append [] bytes a b
