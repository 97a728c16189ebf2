use Rattle.std.{proofs.Common.{rules, ◌≡◌, ℕ, ◌^◌, ◌≤◌, Bool, List, length, take, arith}, specs.Int.{Width}}
use Rattle.std.proofs.lemmas.List.{length-take-le}
use mir.Val.{bits}
use Rattle.zf_spec.specs.ReadPlanes.{planes_in}
use Rattle.zf_block.{specs.WholePlanes.{whole_from, rate_whole_from}, proofs.Sizes.{block_sizes}}
use Rattle.zf_block.proofs.whole.whole_planes.Goals as goal

pub whole_planes_in-requires-clause-size : goal.whole_planes_in-requires-clause-size
whole_planes_in-requires-clause-size g c = (block_sizes c.args.d.count c.block_len-size.result c.args.d.range.0 c.args.d.range.1 c.block_len-size.ensures.value, omega arith)

-- a code is as long as the budget says
of_code : (w : Width) (n d size budget : ℕ) (s : List Bool) → n ≡ bits w → size ≡ 4 ^ d → budget ≤ length s
    → whole_from budget (planes_in n size (take budget s)) ≡ rate_whole_from w d (take budget s)
unfolding rate_whole_from
of_code w n d size budget s width is enough = search (rules, length-take-le)

pub returns-then-size-le64-clause-plane : goal.returns-then-size-le64-clause-plane
returns-then-size-le64-clause-plane g c = search (rules, of_code)

pub returns-else-size-le64-clause-plane : goal.returns-else-size-le64-clause-plane
returns-else-size-le64-clause-plane g c = search (rules, of_code)

pub whole_planes_in-requires-else-size-le64-clause-size : goal.whole_planes_in-requires-else-size-le64-clause-size
whole_planes_in-requires-else-size-le64-clause-size g c = (block_sizes c.args.d.count c.block_len-size.result c.args.d.range.0 c.args.d.range.1 c.block_len-size.ensures.value, omega arith)
