-- One read of a source that promotes: what is given is gone from what is to come.
use Rattle.std.proofs.lemmas.List.{nil_from_length}
use Rattle.std.proofs.Common.{rules, ◌≡◌, refl, sym, ap, ◌∙◌, ℕ, zero, ◌%◌, ◌≤◌, ◌<◌, Bool, true, false, IsTrue, List, [], ◌∷◌, ◌++◌, length, take, replicate, Option, Some, None, Result, Ok, Err, append_assoc, append-nil, arith}
use Rattle.std.{specs.Prelude.{IfOk, ◌↔◌}, proofs.lemmas.List.{length-take-le}}
use Rattle.zf_dev.specs.Source.{Takes, IsAtEnd, EndsAt}
use Rattle.zf_narrow.{specs.declared.narrow.Narrow.{Narrow}, specs.declared.narrow.Narrow.TheVariants.{I8}}
use Rattle.zf_narrow.{specs.Values.{size_of}, specs.RawNarrow.{promoted_bytes, promoted_all}}
use Rattle.zf_narrow.specs.Promoting.{coming, exposed_by, TakesValues}
use Rattle.zf_narrow.proofs.Whole.{promoted_all-append, promoted_all-few}

some_size : (n : Narrow) → 0 < size_of n
some_size n = grind arith

-- the bytes of whole values come before those of what is left
pub values_then : (n : Narrow) (half half_now values bytes left rest : List ℕ) → left ≡ bytes ++ rest → half ++ bytes ≡ values ++ half_now → length values % size_of n ≡ 0
    → promoted_all n (half ++ left) ≡ promoted_bytes n values ++ promoted_all n (half_now ++ rest)
values_then n half half_now values bytes left rest taken parts whole =
    let read = append_assoc half bytes rest in
    cc (taken, read, parts, append_assoc values half_now rest, promoted_all-append n values (half_now ++ rest) whole)

-- whole values were read, of whose bytes the first were given and the rest are pending
pub values_given : (n : Narrow) (before now : Option (List ℕ)) (gives : List ℕ → Type 0) (half half_now values first pending : List ℕ) → TakesValues n before now gives half half_now values → promoted_bytes n values ≡ first ++ pending
    → Takes (exposed_by n false [] half before) (exposed_by n false pending half_now now) first
values_given n None now gives half half_now values first pending takes is = tt
values_given n (Some left) None gives half half_now values first pending takes is = absurd takes.taken
values_given n (Some left) (Some rest) gives half half_now values first pending takes is =
    let then = values_then n half half_now values takes.bytes left rest takes.taken takes.parts takes.whole in
    cc (then, append_assoc first pending (promoted_all n (half_now ++ rest)))

-- at the end of the source a zero byte is given for half a value
pub half_given : (n : Narrow) (before now : Option (List ℕ)) (gives : List ℕ → Type 0) (half half_now : List ℕ) (spent : Bool) → length half_now < size_of n → TakesValues n before now gives half half_now [] → IsAtEnd now → IsTrue spent ↔ (0 < length half_now)
    → Takes (exposed_by n false [] half before) (exposed_by n spent [] half_now now) (replicate (length half_now) 0)
half_given n None now gives half half_now spent few takes end is = tt
half_given n (Some left) None gives half half_now spent few takes end is = absurd takes.taken
half_given n (Some left) (Some rest) gives half half_now spent few takes end is =
    values_then n half half_now [] takes.bytes left rest takes.taken takes.parts takes.whole
    ∙ ap (λ bs. promoted_bytes n [] ++ promoted_all n (half_now ++ bs)) end
    ∙ ap (λ bs. bs ++ promoted_all n (half_now ++ [])) (nothing n)
    ∙ ap (promoted_all n) (append-nil half_now) ∙ promoted_all-few n half_now few ∙ by spent is
  where
    nothing : (n : Narrow) → promoted_bytes n [] ≡ []
    nothing I8 = refl
    nothing n = refl

    by : (spent : Bool) → IsTrue spent ↔ (0 < length half_now) → replicate {A = ℕ} (length half_now) 0 ≡ replicate (length half_now) 0 ++ ([] ++ coming n spent half_now rest)
    by true is = sym (append-nil (replicate (length half_now) 0))
    by false is =
        let no_half : half_now ≡ [] = nil_from_length half_now (grind (arith, is.1)) in
        let nothing_comes : promoted_all n (half_now ++ rest) ≡ [] = ap (λ xs. promoted_all n (xs ++ rest)) no_half ∙ ap (promoted_all n) end ∙ promoted_all-few n [] (some_size n) in
        sym (ap (λ bs. replicate (length half_now) 0 ++ bs) nothing_comes ∙ append-nil (replicate (length half_now) 0))

-- nothing comes where nothing is left
pub none_comes : (n : Narrow) (spent : Bool) (now : Option (List ℕ)) (half : List ℕ) → IsAtEnd now → length half ≡ 0 → IsAtEnd (exposed_by n spent [] half now)
none_comes n spent None half end none = tt
none_comes n true (Some left) half end none = refl
none_comes n false (Some left) [] end none = ap (promoted_all n) end ∙ promoted_all-few n [] (some_size n)
none_comes n false (Some left) (b ∷ half) end none = absurd (omega arith)

-- the end of a source that promotes is exposed by a read of nothing
pub ends_at : {E : Type 0} (r : Result ℕ E) (old new : Option (List ℕ)) (buf : List ℕ) → IfOk r (λ k. Takes old new (take k buf)) → IfOk r (λ k. k ≤ length buf) → IfOk r (λ k. k ≡ 0 → IsAtEnd new) → IfOk r (λ k. EndsAt old new k)
ends_at (Err e) old new buf takes bound end = tt
ends_at (Ok k) None new buf takes bound end = end
ends_at (Ok k) (Some left) None buf takes bound end = absurd takes
ends_at (Ok zero) (Some left) (Some rest) buf takes bound end = (λ z. takes ∙ end refl, λ none. refl)
ends_at (Ok k) (Some left) (Some rest) buf takes bound end = search (rules, length-take-le)
