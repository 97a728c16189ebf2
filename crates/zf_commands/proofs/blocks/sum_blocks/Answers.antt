use Rattle.std.proofs.Common.{◌∙◌, sym, ap, subst, ◌+◌, ◌-◌, ◌*◌, ◌^◌, ◌<◌, ◌≤◌, to_z, arith, rules}
use Rattle.std.{specs.Int.{w128}}
use Rattle.zf_spec.{specs.Grid.{blocks, count_from}, proofs.Counting.{count_from-below}}
use Rattle.zf_cached.specs.Steps.{total}
use Rattle.zf_window.specs.Bounds.{IsUpTo}
use Rattle.zf_commands.proofs.Passing.{stays_touched, touched_on, sum_from, sum_on, sum_starts, sum_ends, summed_fits, summed_is, up_to_more, up_to_less}
use Rattle.zf_commands.proofs.blocks.sum_blocks.Goals as goal

pub loop-b-init : goal.loop-b-init
loop-b-init g c = search (rules, sum_starts, sum_from)

pub sum_of_block-sum-requires-clause-block : goal.sum_of_block-sum-requires-clause-block
sum_of_block-sum-requires-clause-block g c = search rules

pub overflow_add-sum : goal.overflow_add-sum
overflow_add-sum g c =
    summed_fits c.loop-b.sum-bits c.sum_of_block-sum.result c.loop-b.b (2 ^ 71) (omega (arith, c.blocks-b-end.ensures.bound, c.loop-b-test.true)) (omega arith) c.loop-b.invariant.small c.sum_of_block-sum.ensures.bound

pub loop-b-preserved : goal.loop-b-preserved
loop-b-preserved g c =
    let inv = c.loop-b.invariant in
    let r = g.A.Subject.session _ in
    let s = g.A.Subject.session c.loop-b.a in
    let t = g.A.Subject.session c.sum_of_block-sum.new.self in
    let k = c.loop-b.b in
    let n = blocks r.shape in
    let x = c.sum_of_block-sum.result in
    let sum = to_z w128 c.loop-b.sum-bits in
    let S = g.A.Subject.setting (g.A.Subject.kept _) in
    let told = c.sum_of_block-sum.ensures in
    let room : 2 ^ 71 * (k + 1) ≤ 2 ^ 100 = omega (arith, c.blocks-b-end.ensures.bound, c.loop-b-test.true) in
    let is = summed_is c.loop-b.sum-bits x k (2 ^ 71) room (omega arith) inv.small told.bound in
    let below : k < n = omega (arith, c.blocks-b-end.ensures.value, ap blocks c.sizes.ensures, c.loop-b-test.true) in
    let touches = touched_on g.A.Subject.setting (g.A.Subject.kept c.loop-b.a) (g.A.Subject.kept _) inv.kept k s t told.touched.does in record {
      kept = told.touched.kept ∙ inv.kept;
      stays = stays_touched S k r s t inv.stays touches;
      small = subst (IsUpTo (2 ^ 71 * (k + 1))) (sym is) (up_to_more (2 ^ 71) k sum x inv.small told.bound);
      sum = inv.sum ∙ ap (λ bs. sum_from S (λ b. b) (λ b values. total values) bs s sum) (count_from-below k n below)
          ∙ sum_on S (λ b. b) (λ b values. total values) k (count_from (k + 1) (n - (k + 1))) s t touches sum x _ told.sum is;
      sound = told.touched.sound;
    }

pub returns : goal.returns
returns g c = search (rules, sum_from, sum_ends, up_to_less)
