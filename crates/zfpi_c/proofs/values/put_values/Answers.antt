use Rattle.std.{proofs.Common.{rules}, proofs.lemmas.List.{map_push, take_more_set, take_all}}
use Rattle.std.proofs.Math.Nat.{mul-le-mul_right}
use Rattle.zf_stream.proofs.LittleEndian.{values_from-more}
use Rattle.zfpi_c.proofs.values.put_values.Goals as goal

pub loop-i-preserved : goal.loop-i-preserved
loop-i-preserved g c = search (rules, mul-le-mul_right, take_more_set, map_push, values_from-more)

pub returns : goal.returns
returns g c = search (rules, take_all)
