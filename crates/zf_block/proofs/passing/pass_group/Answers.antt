use Rattle.std.proofs.Common.{◌≡◌, ap, ◌∙◌, ◌-◌, true, ◌∷◌, drop, arith}
use Rattle.std.proofs.lemmas.Option.{IfSome_then}
use Rattle.zf_planes.proofs.Passing.{on_none}
use Rattle.zf_block.specs.Passing.{run_len, run_reach, tail_len, tail_reach, Along}
use Rattle.zf_block.proofs.PartsPassed.{along_start, along_more, along_both, along_short, tail_one, group_there, one_first}
use Rattle.zf_block.proofs.passing.pass_group.Goals as goal

pub returns-then-bits-min-clause-passed : goal.returns-then-bits-min-clause-passed
returns-then-bits-min-clause-passed c =
    rw c.skip.ensures
    (group_there c.args.ahead.now c.args.next c.min.result c.args.most c.min-zeros.result c.min-bits.result c.requires.next c.ranges.next.fits c.requires.one c.requires.some
    (omega (arith, c.min.ensures)) (omega (arith, c.min.ensures, c.left.ensures)) c.min-zeros.ensures c.min-bits.ensures c.if-bits-min.true)

-- behind the group bit the run is to come
group_passed : (c : goal.After-pass_run) → Along (tail_len c.args.most c.args.ahead.now) (tail_reach c.args.most c.args.ahead.now) c.args.most c.args.ahead.now
    (run_len c.args.most c.skip-2.new.self) (run_reach c.args.most c.skip-2.new.self) c.args.most c.skip-2.new.self
group_passed c =
    let s = c.args.ahead.now in
    let m = c.args.most in
    let one : s ≡ true ∷ drop 1 s = one_first s c.args.next 1 (c.requires.next 1 (omega arith) c.requires.there) (omega arith) c.requires.one in
    let group = tail_one m (drop 1 s) c.requires.some in
    let none : m - 0 ≡ m = omega arith in
    rw c.skip-2.ensures
    (rw none at (along_more 1 0 (run_len m (drop 1 s)) (run_reach m (drop 1 s)) (along_start (tail_len m s) (tail_reach m s) m s) c.requires.there (omega arith) (ap (tail_len m) one ∙ group.0) (omega (arith, ap (tail_reach m) one, group.1))))

pub returns-clause-short : goal.returns-clause-short
returns-clause-short c = on_none c.pass_run.result c.pass_run.ensures.short (λ short. along_short (group_passed c) short)

pub returns-clause-passed : goal.returns-clause-passed
returns-clause-passed c = IfSome_then c.pass_run.result c.pass_run.ensures.passed (λ k along. along_both (group_passed c) along)
