use Rattle.zf_cached.proofs.Powers.{raised-power, raised-enough, raised-least, default_lines-power, default_lines-enough, default_lines-least}
use Rattle.zf_cached.proofs.laws_of_changes.numbers_of_lines.Goals as goal

pub returns : goal.returns
returns c = record {
  raised_power = raised-power;
  raised_enough = raised-enough;
  raised_least = raised-least;
  default_power = default_lines-power;
  default_enough = default_lines-enough;
  default_least = default_lines-least;
}
