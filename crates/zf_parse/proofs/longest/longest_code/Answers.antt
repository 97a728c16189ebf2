use Rattle.std.{proofs.Common.{rules}, proofs.Math.Nat.{mul-pos, one-le-pow}}
use Rattle.zf_parse.proofs.longest.longest_code.Goals as goal

pub returns-in-Precision-clause-some : goal.returns-in-Precision-clause-some
returns-in-Precision-clause-some g c = search (rules, one-le-pow, mul-pos)
