use Rattle.std.proofs.Common.{◌≡◌, ◌-◌, ◌++◌, map}
use Rattle.rand_core.specs.Steps.{stream_of}
use Rattle.rand_xoshiro.specs.SplitMix64.{splitmix_steps}
use Rattle.zf_spec.specs.Stream.{raw}
use Rattle.zf_sample.specs.Made.{words, value_of_word, made_values}
use Rattle.zf_sample.proofs.values.raw_values.Given as goal

-- the bytes so far, and those of the values to come, are all
abbrev pub invariant-loop : goal.invariant-loop
invariant-loop g l =
    let w = g.T.Lane.width in
    l.bytes.items ++ raw w (map (value_of_word w) (words (l.count - l.counter) (stream_of splitmix_steps l.words))) ≡ raw w (made_values w l.count l.seed)
