-- One read of a promotion, as the log of what was given sees it.
use Rattle.std.proofs.Common.{rules, ◌≡◌, refl, ap, ◌∙◌, ℕ, ◌<◌, Bool, true, false, IsTrue, List, ◌++◌, length, drop, replicate, Option, append_assoc, append-nil, arith}
use Rattle.std.{specs.Prelude.{◌↔◌}, proofs.lemmas.List.{drop_all, nil_from_length}, proofs.lemmas.Bool.{false_from_ne_true}}
use Rattle.zf_dev.specs.Logs.{noted}
use Rattle.zf_dev.specs.Source.{Gives, IsAtEnd}
use Rattle.zf_narrow.{specs.declared.promotion.Promotion.{Promotion}, specs.RawNarrow.{promoted_bytes}}
use Rattle.zf_narrow.{specs.Promoting.{listed}, proofs.Whole.{promoted_bytes-append}}
use Rattle.zf_narrow.specs.Promotions.{exposed, zeros_given, HasGiven, IsIdle, TakesRaw, GivesRaw, GivesHalf}
use Rattle.zf_narrow.proofs.Reading.{all_gone, half_gone}

-- all int32 bytes of a promotion that was read further, before any of the new ones were given
all_bytes : Promotion → List ℕ
all_bytes p = promoted_bytes p.narrow (noted p.taken) ++ replicate (zeros_given p.spent (listed p.half)) 0

no_zeros : (p : Promotion) → (IsTrue p.spent → ⊥) → all_bytes p ≡ promoted_bytes p.narrow (noted p.taken)
unfolding all_bytes
no_zeros p unspent = search (rules, false_from_ne_true, append-nil)

-- nothing is pending
none_pending : (p : Promotion) (s : List ℕ) → p.at ≡ 4 → length p.value ≡ 4 → s ++ drop p.at p.value ≡ s
none_pending p s all four = search (rules, drop_all, append-nil)

module _ (old mid : Promotion) (before now : Option (List ℕ)) (told : List ℕ → Type 0) (raw : List ℕ) (idle : IsIdle old) (four : length old.value ≡ 4) (takes : TakesRaw old mid before now told raw) where
  whole_given : (s : List ℕ) → HasGiven old s → s ++ raw ≡ all_bytes mid
  unfolding all_bytes
  whole_given s has = search (rules, none_pending, no_zeros, promoted_bytes-append)

  -- all of them were given
  pub gives_all : GivesRaw old mid before now raw
  unfolding all_bytes
  gives_all = record {
    gone = all_gone old mid before now told raw idle four takes;
    gave = record { goes_on = λ s has. none_pending mid (s ++ raw) takes.idle.all_given (ap length takes.kept ∙ four) ∙ whole_given s has };
  }

  -- the first of them were given
  pub gives_first : (first value : List ℕ) (at : ℕ) → raw ≡ first ++ drop at value
      → Gives (HasGiven old) (λ s. s ++ drop at value ≡ promoted_bytes mid.narrow (noted mid.taken) ++ replicate (zeros_given mid.spent (listed mid.half)) 0) first
  unfolding all_bytes
  gives_first first value at is = search (rules, append_assoc, whole_given)

  -- there were none, and a zero byte was given for half a value
  pub gives_half : (new : Promotion) (bytes : List ℕ) (count : ℕ) → length raw ≡ 0 → IsAtEnd now → GivesHalf mid new count bytes → GivesRaw old new before now bytes × (count ≡ 0 → IsAtEnd (exposed new now))
  unfolding all_bytes
  gives_half new bytes count none end gives =
      let zeros : bytes ≡ replicate (zeros_given new.spent (listed new.half)) 0 = cc (gives.given_are, by new.spent gives.spent, gives.half) in
      let p = promoted_bytes mid.narrow (noted mid.taken) in
      let all : p ≡ promoted_bytes new.narrow (noted new.taken) = cc (gives.same_type, gives.taken) in
      let gone = half_gone old mid new before now told raw bytes count idle four takes none end gives in
      search (rules, append-nil, nil_from_length, whole_given, no_zeros, none_pending)
    where
      by : (b : Bool) → IsTrue b ↔ (0 < count) → length (listed mid.half) ≡ zeros_given b (listed mid.half)
      by true is = refl
      by false is = grind (arith, gives.count_is)
