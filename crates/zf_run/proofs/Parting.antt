-- An array that may be split, as what a script runs on.
use Rattle.std.proofs.Common.{◌≡◌, refl, ap, subst, ℕ, zero, suc, ℤ, Bool, true, false, not, length, Option, Some, None, is_some}
use Rattle.std.specs.Prelude.{Vec, IsSome}
use Rattle.zf_cached.specs.Commands.{Command}
use Rattle.zf_cached.specs.Steps.{Setting, Session, is_split, views_of, with_view, by_view, flushed_views, joined, needs_split, refuses_split, done}
use Rattle.zf_private.specs.Standing as private
use Rattle.zf_array.specs.Standing.{Held}
use Rattle.zf_run.specs.Splits.{lists, split_of}
use Rattle.zf_commands.{specs.Steps.{Does, HasWindow}, proofs.Stepping.{accepted}}

-- ---- whether there is a split

pub some_parted : {X Z : Type 0} (value : X → ℤ) (a : Held) (views : Option (Vec (private.Held X) Z)) → IsSome views → is_some (split_of value a (lists views)) ≡ true
some_parted value a None some = absurd (cc)
some_parted value a (Some views) some = refl

pub none_parted : {X Z : Type 0} (views : Option (Vec X Z)) → is_some views ≡ false → views ≡ None
none_parted None e = refl
none_parted (Some views) e = absurd (cc)

-- there is one, and a command needs none
pub refuses_whole : {Code : Type 0} (s : Session Code) (c : Command) → is_split s ≡ true → needs_split c ≡ false → refuses_split s c ≡ true
refuses_whole s c e f = λ i. elim (e i) as (λ x. Bool) [ true ↦ not (f i) | false ↦ f i ]

-- ---- the end of a split

flushed_window : {Code : Type 0} (setting : Setting Code) (s : Session Code) (n : ℕ) → HasWindow s → HasWindow (flushed_views setting s n)
unfolding flushed_views by_view with_view
flushed_window setting s zero lies = lies
flushed_window setting s (suc n) lies = flushed_window setting s n lies

pub has_joined : {Code : Type 0} (setting : Setting Code) (s t : Session Code) → HasWindow s → is_split s ≡ true → joined setting s ≡ t → Does setting Command.join s t None
unfolding done joined
has_joined setting s t lies split joins =
    accepted setting Command.join s lies (ap (λ p. elim p as (λ x. Bool) [ true ↦ false | false ↦ true ]) split) refl refl refl t None refl
    (ap (λ x. (x, None)) joins) (subst HasWindow joins (flushed_window setting s (length (views_of s)) lies))
