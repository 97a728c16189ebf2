-- One read of a promotion, as the source sees it.
use Rattle.std.proofs.Common.{rules, ◌≡◌, sym, ap, ◌∙◌, ℕ, false, IsTrue, List, [], ◌++◌, length, drop, Option, append-nil}
use Rattle.std.{proofs.lemmas.List.{drop_all}, proofs.lemmas.Bool.{false_from_ne_true}}
use Rattle.zf_dev.specs.Source.{Takes, IsAtEnd}
use Rattle.zf_narrow.{specs.declared.promotion.Promotion.{Promotion}, specs.Promoting.{listed, exposed_by}}
use Rattle.zf_narrow.{specs.Promotions.{exposed, IsIdle, TakesRaw, GivesHalf}, proofs.Whole.{no_values}}
use Rattle.zf_narrow.proofs.Stepping.{values_given, half_given, none_comes}

-- nothing is pending
pub exposed_idle : (p : Promotion) (left : Option (List ℕ)) → p.at ≡ 4 → length p.value ≡ 4 → exposed p left ≡ exposed_by p.narrow p.spent [] (listed p.half) left
exposed_idle p left all four = search (rules, drop_all)

pub exposed_unspent : (p : Promotion) (left : Option (List ℕ)) → p.at ≡ 4 → length p.value ≡ 4 → (IsTrue p.spent → ⊥) → exposed p left ≡ exposed_by p.narrow false [] (listed p.half) left
exposed_unspent p left all four unspent = exposed_idle p left all four ∙ ap (λ s. exposed_by p.narrow s [] (listed p.half) left) (false_from_ne_true p.spent unspent)

-- whole values were read, and all of their bytes given
pub all_gone : (old new : Promotion) (before now : Option (List ℕ)) (gives : List ℕ → Type 0) (raw : List ℕ) → IsIdle old → length old.value ≡ 4 → TakesRaw old new before now gives raw → Takes (exposed old before) (exposed new now) raw
all_gone old new before now gives raw idle four takes =
    let n = old.narrow in
    let from = values_given n before now gives (listed old.half) (listed new.half) takes.values raw [] takes.taken (sym takes.raw_is ∙ sym (append-nil raw)) in search (rules, exposed_unspent)

-- and the first of their bytes given
pub first_gone : (old mid : Promotion) (before now : Option (List ℕ)) (gives : List ℕ → Type 0) (raw first value : List ℕ) (at : ℕ) → IsIdle old → length old.value ≡ 4 → TakesRaw old mid before now gives raw → raw ≡ first ++ drop at value
    → Takes (exposed old before) (exposed_by mid.narrow mid.spent (drop at value) (listed mid.half) now) first
first_gone old mid before now gives raw first value at idle four takes is =
    let n = old.narrow in
    let pending = drop at value in
    let from = values_given n before now gives (listed old.half) (listed mid.half) takes.values first pending takes.taken (sym takes.raw_is ∙ is) in search (rules, false_from_ne_true, exposed_unspent)

-- the source is at its end, and a zero byte was given for half a value
pub half_gone : (old mid new : Promotion) (before now : Option (List ℕ)) (gives : List ℕ → Type 0) (raw given : List ℕ) (count : ℕ) → IsIdle old → length old.value ≡ 4 → TakesRaw old mid before now gives raw → length raw ≡ 0 → IsAtEnd now → GivesHalf mid new count given
    → Takes (exposed old before) (exposed new now) given × (count ≡ 0 → IsAtEnd (exposed new now))
half_gone old mid new before now gives raw given count idle four takes none end half = search (rules, no_values, half_given, exposed_idle, exposed_unspent, none_comes)
