use Rattle.zf_cached.proofs.Arrays.{meant-rate, encoded-rate, rounded-rate, meant-zeros}
use Rattle.zf_cached.proofs.laws_of_arrays.rate_codes.Goals as goal

pub returns : goal.returns
returns c = record {
  meaning = meant-rate;
  encoding = encoded-rate;
  rounding = rounded-rate;
  zero = meant-zeros;
}
