use Rattle.zf_base.proofs.Places.{IsAt-position, IsAt-inside, IsAt-length, IsAt-block, IsAt-place}
use Rattle.zf_base.proofs.laws.one_place_for_a_position.Goals as goal

pub returns-clause-some : goal.returns-clause-some
returns-clause-some c = IsAt-position

pub returns-clause-one : goal.returns-clause-one
returns-clause-one c = λ ns ps b p h. (IsAt-block ns ps b p h, IsAt-place ns ps b p h)

pub returns-clause-inside : goal.returns-clause-inside
returns-clause-inside c = λ ns ps b p h. (IsAt-inside ns ps b p h, IsAt-length ns ps b p h)
