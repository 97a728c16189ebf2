use Rattle.zf_array.proofs.Coded.{empty_coded}
use Rattle.zf_array.proofs.array.Array.see_coded.Goals as goal

pub returns : goal.returns
returns g c =
    empty_coded _ _ _ _ _ _ c.self.invariant c.args.self.now c.self.view_is c.requires
