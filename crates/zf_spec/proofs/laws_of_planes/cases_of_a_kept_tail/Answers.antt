use Rattle.zf_spec.proofs.KeptCases.{kept_tail-none, kept_tail-zeros, kept_tail-whole, kept_tail-cut, kept_tail-last, kept_tail-last_cut}
use Rattle.zf_spec.proofs.laws_of_planes.cases_of_a_kept_tail.Goals as goal

pub returns : goal.returns
returns c = record { no_bit = kept_tail-none; no_one = kept_tail-zeros; whole = kept_tail-whole; cut = kept_tail-cut; last = kept_tail-last; last_cut = kept_tail-last_cut }
