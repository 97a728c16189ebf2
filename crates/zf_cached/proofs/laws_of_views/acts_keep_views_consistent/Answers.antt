use Rattle.zf_cached.proofs.Acting.{acted-consistent, acted-codes}
use Rattle.zf_cached.proofs.laws_of_views.acts_keep_views_consistent.Goals as goal

pub returns : goal.returns
returns g c = record {
  consistent = λ w format owned s a may h. acted-consistent w format owned s h a may;
  codes = acted-codes;
}
