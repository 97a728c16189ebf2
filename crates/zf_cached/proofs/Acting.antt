-- What the acts of a view keep, and what they leave of blocks that are not its own.
use Rattle.std.{proofs.Common.{◌≡◌, refl, ℕ, ℤ, pos, ◌+ℤ◌, Bool, true, false, get_or, set}, specs.Int.{Width}}
use Rattle.zf_spec.specs.Numbers.{wrap}
use Rattle.zf_base.{specs.Formats.{Format}, proofs.Formats.{existing_of-set}}
use Rattle.zf_cached.{specs.State.{State}, specs.Changes.{discard}, specs.Acts.{Act}}
use Rattle.zf_cached.specs.Touch.{soiled, touch_for_writing_at, touch_for_writing, with_values}
use Rattle.zf_cached.{specs.Placing.{direct, IsDirect, direct_placing}, specs.Views.{changed, acted}}
use Rattle.zf_cached.{specs.Consistency.{IsPossible, IsConsistent}, proofs.Flushing.{flush-clean}}
use Rattle.zf_cached.proofs.Caching.{touch-left_clean, touch_for_writing-dirty}
use Rattle.zf_cached.proofs.Placed.{touch-consistent, touch_for_writing-consistent, with_values-consistent, flush-consistent, discard-consistent}

module _ {Code : Type 0} (w : Width) (format : Format Code) where
  -- the code of a block that isn't dirty stays
  pub acted-codes : (s : State Code) (a : Act) (b : ℕ) → s.dirty b ≡ false → (acted w format s a).codes b ≡ s.codes b
  unfolding acted discard touch_for_writing_at soiled with_values
  acted-codes s (Act.get c p) b clean = (touch-left_clean direct format s c b clean).code
  acted-codes s (Act.set c p v) b clean = (touch-left_clean direct format s c b clean).code
  acted-codes s (Act.add c p v) b clean = (touch-left_clean direct format s c b clean).code
  acted-codes s Act.flush b clean = (flush-clean format s b clean).0
  acted-codes s Act.discard b clean = refl

  module _ (owned : ℕ → Bool) (s : State Code) (h : IsConsistent direct owned format s) where
    changed-consistent : (b p : ℕ) (change : ℤ → ℤ) → owned b ≡ true → format.exists b p ≡ true → IsConsistent direct owned format (changed format s b p change)
    changed-consistent b p change own exists =
        let t = touch_for_writing format s b in
        let k = touch_for_writing-consistent direct IsDirect direct_placing owned format s b own h in
        with_values-consistent direct IsDirect direct_placing owned format t b (set (t.values b) p (change (get_or (t.values b) p (pos 0)))) (touch_for_writing-dirty direct format s b)
        (existing_of-set format b (t.values b) p _ exists (k.whole b own)) k

    pub acted-consistent : (a : Act) → IsPossible owned format a → IsConsistent direct owned format (acted w format s a)
    unfolding acted
    acted-consistent (Act.get b p) own = touch-consistent direct IsDirect direct_placing owned format s b own h
    acted-consistent (Act.set b p v) may = changed-consistent b p (λ old. v) may.0 may.1
    acted-consistent (Act.add b p v) may = changed-consistent b p (λ old. wrap w (old +ℤ v)) may.0 may.1
    acted-consistent Act.flush may = flush-consistent direct IsDirect direct_placing owned format s h
    acted-consistent Act.discard may = discard-consistent direct IsDirect direct_placing owned format s h
