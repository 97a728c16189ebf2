use Rattle.std.{proofs.Common.{rules}, proofs.lemmas.List.{get_or_default}}
use Rattle.zf_stream.proofs.LittleEndian.{value_is}
use Rattle.zfpi_c.proofs.values.value_of.Goals as goal

pub returns : goal.returns
returns g c = search (rules, value_is, get_or_default)
