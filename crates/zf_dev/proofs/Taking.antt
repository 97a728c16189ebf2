-- How what is taken from a source adds up over several calls.
use Rattle.std.proofs.Common.{ℕ, List, [], ◌++◌, Option, Some, None, refl, ap, sym, ◌∙◌, append_assoc}
use Rattle.zf_dev.specs.Source.{Takes}

-- nothing was taken
pub Takes-none : (known : Option (List ℕ)) → Takes known known []
Takes-none None = tt
Takes-none (Some left) = refl

-- some bytes were taken, and then some more
pub Takes-append : (old mid new : Option (List ℕ)) (first next : List ℕ) → Takes old mid first → Takes mid new next → Takes old new (first ++ next)
Takes-append None mid new first next a b = tt
Takes-append (Some xs) (Some ys) (Some zs) first next a b = a ∙ (ap (λ rest. first ++ rest) b ∙ sym (append_assoc first next zs))
Takes-append (Some xs) None new first next a b = absurd a
Takes-append (Some xs) (Some ys) None first next a b = b

-- the bytes taken up to the end are all that were to come
