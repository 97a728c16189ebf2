use Rattle.std.{proofs.Common.{sym, nat_le}, proofs.lemmas.Bool.{le-leb, lt-leb}}
use Rattle.zf_cached.specs.Changes.{raised}
use Rattle.zf_cache.proofs.Doubled.{passes, ends, tried_more}
use Rattle.zf_cache.proofs.counts.raised.Goals as goal

pub returns-then-count-lines-clause-value : goal.returns-then-count-lines-clause-value
unfolding raised
returns-then-count-lines-clause-value c =
    sym (passes (λ p. nat_le c.args.lines p) c.loop.counter c.loop.count c.loop.invariant (le-leb c.args.lines c.loop.count c.if-count-lines.true))

pub loop-preserved : goal.loop-preserved
loop-preserved c =
    tried_more (λ p. nat_le c.args.lines p) c.loop.counter c.loop.count c.loop.invariant c.loop-test.true (lt-leb c.args.lines c.loop.count c.if-count-lines.false)

pub returns-clause-value : goal.returns-clause-value
unfolding raised
returns-clause-value c = sym (ends (λ p. nat_le c.args.lines p) c.loop.counter c.loop.count c.loop.invariant c.loop-test.false)
