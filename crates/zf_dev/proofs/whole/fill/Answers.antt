use Rattle.std.proofs.lemmas.Grind.{common_steps}
use Rattle.std.proofs.Common.{◌≡◌, ℕ, ◌≤◌, length, take, ◌+◌, ◌-◌, ◌∙◌, subst, arith}
use borrow.Rule.Slice.PartMut.{put_mid}
use Rattle.zf_dev.{specs.Source.{Gives}, proofs.Pieces.{take-put_mid_part, rest_more, end_in_range}}
use Rattle.zf_dev.{proofs.Taking.{Takes-append}, proofs.Giving.{Gives-append, Gives-still}}
use Rattle.zf_dev.proofs.whole.fill.Goals as goal

pub loop-filled-preserved : goal.loop-filled-preserved
loop-filled-preserved g c =
    let at = c.loop-filled.filled in
    let buf = c.loop-filled.buf in
    let part = c.read.new.buf in
    let count = c.in_ok-n.n in
    let in_buf : at ≤ length buf = c.loop-filled.invariant.in_range in
    let in_range : at + count ≤ length buf = end_in_range buf at count in_buf c.in_ok-n.ensures.bound in
    let in_part : count ≤ length part = omega arith in
    record {
      in_range = omega arith;
      taken = rw (take-put_mid_part buf part at (length buf - at) count in_buf in_part) (Takes-append _ _ _ _ _ c.loop-filled.invariant.taken c.in_ok-n.ensures.taken);
      gave = rw (take-put_mid_part buf part at (length buf - at) count in_buf in_part) (Gives-append _ _ c.loop-filled.invariant.gave c.in_ok-n.ensures.gave);
      unseen = omega (arith, c.in_ok-n.ensures.seen.1 c.if-n-eq0.false, c.loop-filled.invariant.unseen);
      still_exact = λ exact. c.in_ok-n.ensures.still_exact (c.loop-filled.invariant.still_exact exact);
      rest = rest_more c.args.buf.now buf part at count in_buf in_part c.loop-filled.invariant.rest c.in_ok-n.ensures.rest;
      same = c.in_ok-n.ensures.unchanged ∙ c.loop-filled.invariant.same;
      same_source = c.in_ok-n.ensures.kept ∙ c.loop-filled.invariant.same_source;
      sure = λ sure. (c.in_ok-n.ensures.sure (c.loop-filled.invariant.sure sure)).1;
    }

pub returns-in_err-n-clause-gave_some : goal.returns-in_err-n-clause-gave_some
returns-in_err-n-clause-gave_some g c = (_, Gives-still _ c.loop-filled.invariant.gave c.in_err-n.ensures.ungiven)

pub returns-then-n-eq0-clause-gave : goal.returns-then-n-eq0-clause-gave
returns-then-n-eq0-clause-gave g c =
    let at = c.loop-filled.filled in
    let buf = c.loop-filled.buf in
    let part = c.read.new.buf in
    let count = c.in_ok-n.n in
    let none : at + count ≡ at = omega (arith, c.if-n-eq0.true) in
    let Of : ℕ → Type 0 = λ k. Gives (g.S.Source.gave c.args.src.now) (g.S.Source.gave c.read.new.self) (take k (put_mid at (length buf - at) buf part)) in
    subst Of none
    (rw (take-put_mid_part buf part at (length buf - at) count c.loop-filled.invariant.in_range (omega (arith, c.if-n-eq0.true)))
    (Gives-append _ _ c.loop-filled.invariant.gave c.in_ok-n.ensures.gave))

pub returns-then-n-eq0-clause-gave_some : goal.returns-then-n-eq0-clause-gave_some
returns-then-n-eq0-clause-gave_some g c = (_, Gives-append _ _ c.loop-filled.invariant.gave c.in_ok-n.ensures.gave)

pub returns-in_err-n-clause-lost : goal.returns-in_err-n-clause-lost
returns-in_err-n-clause-lost g c = grind (arith, common_steps)

pub returns-then-n-eq0-clause-taken : goal.returns-then-n-eq0-clause-taken
returns-then-n-eq0-clause-taken g c = grind (arith, common_steps)

pub returns-then-n-eq0-clause-rest : goal.returns-then-n-eq0-clause-rest
returns-then-n-eq0-clause-rest g c = grind (arith, common_steps)
