use Rattle.std.proofs.Common.{◌≡◌, ap, ◌∙◌, ◌+◌, ◌-◌, ◌<◌, ◌≤◌, [], length, arith}
use Rattle.std.proofs.lemmas.List.{nil_from_length}
use Rattle.zf_block.specs.Passing.{run_len, run_reach, tail_len, tail_reach}
use Rattle.zf_block.proofs.PartsPassed.{along_start, along_more, along_short, run_none, run_last, tail_done, zeros_and_one, zeros_alone}
use Rattle.zf_block.proofs.passing.pass_run.Goals as goal

pub loop-m-init : goal.loop-m-init
loop-m-init c = record { along = along_start _ _ _ _; some = c.requires.some }

-- no bit is left
pub returns-then-there-eq0-clause-short : goal.returns-then-there-eq0-clause-short
returns-then-there-eq0-clause-short c =
    let s = c.loop-m.ahead in
    let m = c.loop-m.m in
    let none : s ≡ [] = nil_from_length s (omega (arith, c.left.ensures, c.min.ensures, c.min-there.ensures, c.if-there-eq0.true, c.loop-m-test.true)) in
    let needed : run_len m s ≡ m - 1 = ap (run_len m) none ∙ run_none m c.loop-m.invariant.some in
    along_short c.loop-m.invariant.along (omega (arith, needed, ap length none, c.loop-m-test.true))

-- zeros and a one
pub returns-then-zeros-there-clause-passed : goal.returns-then-zeros-there-clause-passed
returns-then-zeros-there-clause-passed c =
    let s = c.loop-m.ahead in
    let m = c.loop-m.m in
    let k = c.min-zeros.result in
    let count = c.min-there.result in
    let few : count ≤ 64 = omega (arith, c.min-there.ensures) in
    let there : count ≤ length s = omega (arith, c.min-there.ensures, c.min.ensures, c.left.ensures) in
    let run = zeros_and_one s c.peek.result count k m (c.peek.ensures count few there) c.peek.type_inv few
    (omega (arith, c.min-zeros.ensures, c.from.ensures, c.if-zeros-there.true)) c.if-zeros-there.true (omega (arith, c.if-zeros-there.true, c.min-there.ensures, c.min.ensures, c.loop-m-test.true)) in
    let fewer : m - k - 1 ≡ m - (k + 1) = omega arith in
    rw (fewer, c.skip.ensures)
    (along_more (k + 1) (k + 1) _ _ c.loop-m.invariant.along (omega (arith, c.if-zeros-there.true, there)) (omega (arith, c.if-zeros-there.true, c.min-there.ensures, c.min.ensures)) run.0 run.1)

-- only zeros
pub loop-m-preserved : goal.loop-m-preserved
loop-m-preserved c =
    let s = c.loop-m.ahead in
    let m = c.loop-m.m in
    let k = c.min-zeros.result in
    let few : k ≤ 64 = omega (arith, c.min-zeros.ensures, c.min-there.ensures) in
    let there : k ≤ length s = omega (arith, c.min-zeros.ensures, c.min-there.ensures, c.min.ensures, c.left.ensures) in
    let below : k < m = omega (arith, c.min-zeros.ensures, c.min-there.ensures, c.min.ensures, c.loop-m-test.true) in
    let run = zeros_alone s c.peek.result k k m (c.peek.ensures k few there) c.peek.type_inv (omega (arith, c.min-zeros.ensures, c.from.ensures)) (omega arith) below in
    record {
      along = rw c.skip-in-loop-m.ensures (along_more k k _ _ c.loop-m.invariant.along there (omega (arith, below)) run.0 run.1);
      some = omega (arith, below);
    }

-- the one of the last digit
pub returns-clause-passed : goal.returns-clause-passed
returns-clause-passed c =
    let s = c.loop-m.ahead in
    let one : c.loop-m.m ≡ 1 = omega (arith, c.loop-m-test.false, c.loop-m.invariant.some) in
    let last = run_last s in
    let done = tail_done s in
    let bits : run_len c.loop-m.m s ≡ 0 = rw one last.0 in
    let digits : run_reach c.loop-m.m s ≡ 1 = rw one last.1 in
    let none : c.loop-m.m - 1 ≡ 0 = omega (arith, one) in
    rw none at (along_more 0 1 (tail_len 0 s) (tail_reach 0 s) c.loop-m.invariant.along (omega arith) (omega (arith, one)) (omega (arith, bits, done.0)) (omega (arith, digits, done.1)))
