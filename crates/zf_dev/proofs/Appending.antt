-- How what is appended to a sink adds up over several calls.
use Rattle.std.proofs.Common.{ℕ, ◌+◌, List, [], ◌++◌, length, take, Option, Some, None, ap, sym, ◌∙◌, append_assoc, append-nil, length-append, arith}
use Rattle.std.{proofs.lemmas.List.{take_all, take-append-le}, proofs.Math.Seq.{take-append-add}}
use Rattle.zf_dev.specs.Sink.{Appends, AppendsPrefix}

-- nothing was written
pub Appends-none : (known : Option (List ℕ)) → Appends known known []
Appends-none None = tt
Appends-none (Some written) = sym (append-nil written)

-- some bytes were written, and then some more
pub Appends-append : (old mid new : Option (List ℕ)) (first next : List ℕ) → Appends old mid first → Appends mid new next → Appends old new (first ++ next)
Appends-append None mid new first next a b = tt
Appends-append (Some xs) (Some ys) (Some zs) first next a b = b ∙ (ap (λ prefix. prefix ++ next) a ∙ append_assoc xs first next)
Appends-append (Some xs) None new first next a b = absurd a
Appends-append (Some xs) (Some ys) None first next a b = b

-- nothing is a prefix
pub AppendsPrefix-none : (known : Option (List ℕ)) (bytes : List ℕ) → AppendsPrefix known known bytes
AppendsPrefix-none known bytes = (0, omega arith, Appends-none known)

-- all bytes are a prefix
pub AppendsPrefix-all : (old new : Option (List ℕ)) (bytes : List ℕ) → Appends old new bytes → AppendsPrefix old new bytes
AppendsPrefix-all old new bytes all = (length bytes, omega arith, rw (take_all (length bytes) bytes (omega arith)) all)

-- a prefix of these bytes is a prefix of more
pub AppendsPrefix-more : (old new : Option (List ℕ)) (bytes more : List ℕ) → AppendsPrefix old new bytes → AppendsPrefix old new (bytes ++ more)
AppendsPrefix-more old new bytes more prefix =
    (prefix.0, omega (arith, length-append bytes more, prefix.1), rw (take-append-le prefix.0 bytes more prefix.1) prefix.2)

-- some bytes were written, and then a prefix of more
pub AppendsPrefix-append : (old mid new : Option (List ℕ)) (first next : List ℕ) → Appends old mid first → AppendsPrefix mid new next → AppendsPrefix old new (first ++ next)
AppendsPrefix-append old mid new first next all prefix =
    (length first + prefix.0, omega (arith, length-append first next, prefix.1), rw (take-append-add first next prefix.0) (Appends-append old mid new first (take prefix.0 next) all prefix.2))
