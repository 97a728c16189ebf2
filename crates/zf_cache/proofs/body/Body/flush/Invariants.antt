use Rattle.std.proofs.Common.{◌≡◌, ◌<◌, ℕ, length}
use Rattle.zf_cache.{specs.Backed.{StepsTo}, specs.Kept.{tag_at}, specs.Bodies.{IsSound, state_in}}
use Rattle.zf_cache.proofs.Touches.{flushing}
use Rattle.zf_cache.proofs.body.Body.flush.Given as goal

abbrev pub invariant-loop-l : goal.invariant-loop-l
invariant-loop-l g l =
    let place = g.R.Rule.place in let value = g.T.Lane.value in
    StepsTo g.B.Reading (state_in place value) (IsSound place value) (λ f s. flushing f s l.l) l.fn.self l.fn.back l.self l.back
    × (length l.self.tags.items ≡ length l.fn.self.tags.items)
    × ((m : ℕ) → m < l.l → tag_at l.self.tags.items m ≡ 0)
