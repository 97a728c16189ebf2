use Rattle.std.proofs.Common.{◌^◌, subst}
use Rattle.zf_cache.specs.Bodies.{IsWhole}
use Rattle.std.{proofs.Common.{ap, ◌∙◌, length}}
use Rattle.zf_cached.{specs.Changes.{relined}}
use Rattle.zf_cache.{specs.Kept.{Kept}, specs.Bodies.{kept_of, counts_of}, proofs.Lent.{reline}}
use Rattle.zf_cache.specs.Standing.{state_at}
use Rattle.zf_cache.{proofs.Steps.{empty_fits_at}}
use Rattle.zf_cache.proofs.cache.CacheBy.relined.Goals as goal

pub returns-clause-keeps : goal.returns-clause-keeps
returns-clause-keeps g c = record { format = c.flush.ensures.step.format; kept = c.flush.ensures.step.kept }

pub returns-clause-fits : goal.returns-clause-fits
returns-clause-fits g c =
    let h = g.B.Reading.format c.flush.new.back in let j = g.B.Reading.codes c.flush.new.back in
    let n = c.args.lines in let made = c.in_ok-taken.ensures in let put = c.replace.ensures in
    let new = kept_of c.replace.new.self in
    empty_fits_at g.R.Rule.place g.T.Lane.value h j new n (put.tags ∙ made.empty)

pub returns-clause-ok : goal.returns-clause-ok
returns-clause-ok g c =
    let f = g.B.Reading.format c.args.back.now in let k = g.B.Reading.codes c.args.back.now in let value = g.T.Lane.value in
    let o = c.self.inside.body in let e = c.flush.ensures in
    let h = g.B.Reading.format c.flush.new.back in let j = g.B.Reading.codes c.flush.new.back in
    reline g.R.Rule.place value f h j (kept_of c.flush.new.self) (kept_of c.replace.new.self)
    (length o.tags.items) c.args.lines (state_at g.R.Rule.place value (kept_of o) f k) e.empty (c.replace.ensures.tags ∙ c.in_ok-taken.ensures.empty) (ap counts_of c.replace.ensures.counts) e.step.state
    ∙ ap (λ (q : Kept g.row.T.Denot). relined f (state_at g.R.Rule.place value q f k) c.args.lines) c.self.view_is

pub invariant_of-self : goal.invariant_of-self
invariant_of-self g c = (c.replace.ensures.whole (4 ^ g.row.D) (subst (IsWhole c.in_ok-taken.taken) c.block_len.ensures.value c.in_ok-taken.ensures.whole), c.self.invariant.1)
