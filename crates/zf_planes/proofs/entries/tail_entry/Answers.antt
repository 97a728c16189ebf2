use Rattle.std.proofs.Common.{ℕ, ◌+◌, ◌-◌, ◌*◌, get_or, ap}
use Rattle.zf_planes.{specs.declared.entries.TheConstants.{TAILS}, proofs.WordPlanes.{tail_of_entry}}
use Rattle.zf_planes.proofs.entries.tail_entry.Goals as goal

pub returns : goal.returns
returns c =
    let at = λ (m : ℕ). get_or TAILS (256 * (m - 1) + c.args.bits) 0 in
    rw (c.from.ensures, c.from-2.ensures) (tail_of_entry c.args.most c.args.bits (at c.min.result) c.requires.some c.requires.bits (ap at c.min.ensures))
