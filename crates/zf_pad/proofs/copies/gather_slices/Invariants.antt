use Rattle.std.proofs.Common.{◌+◌, ◌*◌, map}
use Rattle.zf_pad.{specs.Layouts.{block_layout}, proofs.Copying.{IsCopiedTo}}
use Rattle.zf_pad.proofs.copies.gather_slices.Given as goal

-- the slices so far are gathered, all else is as it was
abbrev pub invariant-loop-slice : goal.invariant-loop-slice
invariant-loop-slice g l =
    let value = g.T.Lane.value in
    IsCopiedTo l.e l.from block_layout (map value l.values) (map value l.fn.block) (map value l.block) (4 * (4 * l.slice))

-- and so are the rows of this one
abbrev pub invariant-loop-y : goal.invariant-loop-y
invariant-loop-y g l =
    let value = g.T.Lane.value in
    IsCopiedTo l.e l.from block_layout (map value l.values) (map value l.fn.block) (map value l.block) (4 * (4 * l.slice + l.y))
