-- How often a command sees the end of its source.
use Rattle.std.proofs.Common.{◌≡◌, ℕ, ◌+◌, ◌≤◌, ◌&&◌, Bool, true, sym, ap, ◌∙◌, arith}
use Rattle.std.proofs.lemmas.Bool.{true≢false}
use Rattle.zf_program.{specs.Headline.{StopsAtEnd, StaysExact}, proofs.Causes.{IsIdle-same, IsIdle-used}}

-- it was not used
pub StopsAtEnd-same : (used sees : Bool) (n : ℕ) → StopsAtEnd used sees n n
StopsAtEnd-same used sees n = record { once = omega arith; unused = IsIdle-same used n; unseen = λ none. omega arith }

-- it may have been used, and read to its end
pub StopsAtEnd-used : (used sees : Bool) (m n : ℕ) → used ≡ true → sees ≡ true → n ≤ m + 1 → StopsAtEnd used sees m n
StopsAtEnd-used used sees m n is saw once =
    record { once = once; unused = IsIdle-used used m n is; unseen = λ none. absurd (true≢false (sym saw ∙ none)) }

-- it was used, and not read to its end
pub StopsAtEnd-unseen : (used sees : Bool) (m n : ℕ) → used ≡ true → n ≤ m → StopsAtEnd used sees m n
StopsAtEnd-unseen used sees m n is unseen =
    record { once = omega (arith, unseen); unused = IsIdle-used used m n is; unseen = λ none. unseen }

-- it was told that it is read to its end, so nothing is said of what it takes
pub StaysExact-told : {Before Now : Type 0} (to_end reads : Bool) → to_end ≡ true → reads ≡ true → StaysExact (to_end && reads) Before Now
StaysExact-told to_end reads is read = λ none. absurd (true≢false (sym (ap (λ b. b && reads) is ∙ read) ∙ none))
