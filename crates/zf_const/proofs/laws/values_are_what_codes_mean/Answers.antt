use Rattle.zf_const.proofs.Said.{codes_counted, values_meant, value_meant}
use Rattle.zf_const.proofs.laws.values_are_what_codes_mean.Goals as goal

pub returns-clause-count : goal.returns-clause-count
returns-clause-count c bytes said parsed = codes_counted bytes said parsed

pub returns-clause-blocks : goal.returns-clause-blocks
returns-clause-blocks c bytes said lines parsed = values_meant bytes said lines parsed

pub returns-clause-position : goal.returns-clause-position
returns-clause-position c bytes said lines p parsed at = value_meant bytes said lines p parsed at
