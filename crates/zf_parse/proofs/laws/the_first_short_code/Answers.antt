use Rattle.zf_parse.proofs.Cuts.{cut_short, short_cut, cut_fill, fill_cuts, cut_is_good, cut_within}
use Rattle.zf_parse.proofs.laws.the_first_short_code.Goals as goal

pub returns : goal.returns
returns c = record {
  code = λ bytes b good lt. (cut_short bytes good b lt, short_cut bytes good b lt);
  fill = λ bytes good. (cut_fill bytes good, fill_cuts bytes good);
  good = cut_is_good;
  bound = cut_within;
}
