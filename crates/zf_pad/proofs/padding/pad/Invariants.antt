use Rattle.std.proofs.Common.{map}
use Rattle.zf_base.specs.Positions.{used_axes}
use Rattle.zf_pad.proofs.Sources.{IsPadded}
use Rattle.zf_pad.proofs.padding.pad.Given as goal

-- the places so far are padded, the others as they were
abbrev pub invariant-loop-place : goal.invariant-loop-place
invariant-loop-place g l =
    let value = g.T.Lane.value in
    IsPadded (used_axes l.d l.e.size) (map value l.initial.block) (map value l.block) l.place
