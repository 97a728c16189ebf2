use Rattle.std.proofs.Common.{◌≡◌, ap, ◌∙◌, ◌-◌, ◌<◌, false, [], ◌∷◌, length, drop, arith}
use Rattle.std.proofs.lemmas.List.{nil_from_length}
use Rattle.zf_block.specs.Passing.{tail_len, tail_reach}
use Rattle.zf_block.proofs.PartsPassed.{along_start, along_more, along_end, along_short, tail_none, tail_zero, tail_done, zero_first}
use Rattle.zf_block.proofs.passing.pass_tail.Goals as goal

pub loop-m-init : goal.loop-m-init
loop-m-init c = along_start _ _ _ _

-- no bit is left
pub returns-then-left-eq0-clause-short : goal.returns-then-left-eq0-clause-short
returns-then-left-eq0-clause-short c =
    let s = c.loop-m.ahead in
    let none : s ≡ [] = nil_from_length s (omega (arith, c.left.ensures, c.if-left-eq0.true)) in
    let needed : tail_len c.loop-m.m s ≡ 1 = ap (tail_len c.loop-m.m) none ∙ tail_none c.loop-m.m c.loop-m-test.true in
    along_short c.loop-m.invariant (omega (arith, needed, ap length none))

-- a group bit of zero
pub returns-then-next-eq0-clause-passed : goal.returns-then-next-eq0-clause-passed
returns-then-next-eq0-clause-passed c =
    let s = c.loop-m.ahead in
    let m = c.loop-m.m in
    let there : 0 < length s = omega (arith, c.left.ensures, c.if-left-eq0.false) in
    let first : s ≡ false ∷ drop 1 s = zero_first s c.peek-next.result 1 (c.peek-next.ensures 1 (omega arith) there) (omega arith) c.if-next-eq0.true in
    let end = tail_zero m (drop 1 s) c.loop-m-test.true in
    let none : m - 0 ≡ m = omega arith in
    rw c.skip.ensures
    (along_end (rw none at (along_more 1 0 0 0 c.loop-m.invariant there (omega arith) (ap (tail_len m) first ∙ end.0) (ap (tail_reach m) first ∙ end.1))))

-- no digit is left
pub returns-clause-passed : goal.returns-clause-passed
returns-clause-passed c =
    let s = c.loop-m.ahead in
    let none : c.loop-m.m ≡ 0 = omega (arith, c.loop-m-test.false) in
    let done = tail_done s in
    let along = rw none at c.loop-m.invariant in
    along_end (rw (done.0, done.1) at along)
