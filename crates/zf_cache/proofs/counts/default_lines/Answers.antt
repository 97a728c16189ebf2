use Rattle.std.{proofs.Common.{◌*◌, ◌<◌, subst, nat_le, rules}, proofs.lemmas.Bool.{le-leb, lt-leb}}
use Rattle.zf_cached.specs.Changes.{default_lines}
use Rattle.zf_cache.proofs.Doubled.{passes, tried_more}
use Rattle.zf_cache.proofs.counts.default_lines.Goals as goal

pub returns-then-from-blocks-clause-value : goal.returns-then-from-blocks-clause-value
unfolding default_lines
returns-then-from-blocks-clause-value c = search (rules, passes, le-leb)

pub loop-preserved : goal.loop-preserved
loop-preserved c =
    let n = c.blocks-blocks.result in let q = c.loop.count in
    tried_more (λ p. nat_le n (p * p)) c.loop.counter q c.loop.invariant c.loop-test.true (lt-leb n (q * q) (subst (λ m. m < n) (λ i. c.from.ensures i * c.from-in-loop.ensures i) c.if-from-blocks.false))
