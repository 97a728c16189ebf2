-- What an array is once a loan has ended.
use Rattle.std.specs.Prelude.{◌≡◌, ⊤}
use Rattle.std.specs.Borrow.{Fml, RattleType, MutBor, follows_so}
use mathlib.Core.Option.{none}
use Rattle.std.specs.declared.cmp.PartialEq as PartialEq
use Rattle.zf_base.specs.declared.lane.Lane as Lane
use Rattle.zf_const.specs.Standing.{Held}
use Rattle.zf_const.specs.contracts.array.ConstArray.{the_row}

module _ (R D : RattleType) (lane : Lane.Ghosts R.Denot) (eq : PartialEq.Ghosts R.Denot) (a : MutBor Held)
  where
    -- a loan for reading leaves this array
    abbrev pub EndsAs : Held → Fml
    EndsAs after = follows_so (the_row R D lane eq) (the_row R D lane eq) a.ghost_name none (λ _ _. ⊤)
        (λ e. e ≡ after)
