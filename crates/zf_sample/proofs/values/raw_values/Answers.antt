use Rattle.std.proofs.Common.{◌+◌, ◌-◌, ◌/◌, pos, ap, ◌∙◌, arith}
use Rattle.zf_spec.specs.Numbers.{wrap}
use Rattle.zf_sample.{specs.Made.{halved, value_of_word}, proofs.Making.{next_value}}
use Rattle.zf_sample.proofs.values.raw_values.Goals as goal

pub loop-preserved : goal.loop-preserved
loop-preserved g c =
    let w = g.T.Lane.width in
    let value = c.halved.ensures ∙ (ap (halved (g.T.Lane.WIDTH / 2)) c.from_word.ensures.value ∙ ap (λ n. halved (n / 2) (wrap w (pos c.next_u64-word.result))) g.met.T.Lane.bits_of_width) in
    next_value w (value_of_word w) c.loop.bytes.items c.push_value.new.bytes.items (c.args.count - (c.loop.counter + 1)) (c.args.count - c.loop.counter) _ _ c.next_u64-word.result _ (omega arith) c.next_u64-word.ensures value c.in_ok-push_value.ensures
    ∙ c.loop.invariant
