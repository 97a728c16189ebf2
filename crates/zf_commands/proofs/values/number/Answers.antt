use Rattle.std.proofs.Common.{sym, subst, ◌^◌, arith, rules}
use Rattle.zf_base.{specs.Positions.{IsPosition}}
use Rattle.zf_window.specs.Bounds.{IsUpTo}
use Rattle.zf_commands.{proofs.Passing.{up_to_less, small_is}}
use Rattle.zf_commands.proofs.values.number.Goals as goal

pub place-b-requires : goal.place-b-requires
place-b-requires g c = subst (λ ms. IsPosition ms c.args.p) (sym c.sizes.ensures) c.requires.position

pub value_at-requires : goal.value_at-requires
value_at-requires g c = search rules

pub returns-clause-touched : goal.returns-clause-touched
returns-clause-touched g c = search rules

pub returns-clause-value : goal.returns-clause-value
returns-clause-value g c = search rules

pub returns-clause-bound : goal.returns-clause-bound
returns-clause-bound g c =
    subst (IsUpTo (2 ^ 63)) (sym (small_is _ (up_to_less (2 ^ 63) (2 ^ 100) _ (omega arith) c.value_at.ensures.bound))) c.value_at.ensures.bound
