use Rattle.zf_cached.{specs.Ownership.{Owns}, specs.Views.{state_of_view}}
use Rattle.zf_private.proofs.Alike.{alike-refl}
use Rattle.zf_private.proofs.Alone.{same-answers, alike-ran, unowned-ran, own-ran}
use Rattle.zf_private.proofs.laws.views_run_as_if_alone.Goals as goal

pub returns : goal.returns
returns g c = record {
  answers = λ w f first count s steps i shared within own. same-answers w f (λ j. Owns (first j) (count j)) i shared s s steps within own (alike-refl f (Owns (first i) (count i)) (state_of_view s i));
  ends = λ w f first count s steps i shared within own. alike-ran w f (λ j. Owns (first j) (count j)) i shared s s steps within own (alike-refl f (Owns (first i) (count i)) (state_of_view s i));
  unowned = λ w f first count s steps b un within own. unowned-ran w f (λ j. Owns (first j) (count j)) s steps b un within own;
  own = λ w f first count s steps within own. own-ran w f (λ j. Owns (first j) (count j)) s steps within own;
}
