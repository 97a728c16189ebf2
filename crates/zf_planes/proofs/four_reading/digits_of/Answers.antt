use Rattle.std.proofs.Common.{rules, ◌≡◌, ℕ, ◌-◌, List, false, ◌++◌, replicate}
use Rattle.zf_planes.specs.Lanes.{IsGathered, gathered}
use Rattle.zf_planes.proofs.Lanes.{zeros_below, no_lanes_below, gathered_words, gathered_none, low_planes-zeros}
use Rattle.zf_planes.proofs.four_reading.digits_of.Goals as goal

-- ---- nothing was read

pub returns-then-all-eq0-clause-planes : goal.returns-then-all-eq0-clause-planes
returns-then-all-eq0-clause-planes c = search (rules, gathered_none, low_planes-zeros)

-- ---- zeros behind what was read

behind : (words : List ℕ) (done lanes held width : ℕ) → IsGathered words done lanes held → held ≡ 0
    → IsGathered words done 0 (width - done) × (gathered words done 0 (width - done) ≡ gathered words done lanes held ++ replicate (width - done) (replicate 4 false))
behind words done lanes held width before none = search (rules, no_lanes_below, zeros_below, gathered_words)

pub put_down-shifted-requires-clause-gathered : goal.put_down-shifted-requires-clause-gathered
put_down-shifted-requires-clause-gathered c =
    let all = c.put_down-all in
    (behind all.result.words all.result.done all.result.lanes all.result.held c.args.width all.ensures.gathered all.ensures.none).0

pub returns-clause-planes : goal.returns-clause-planes
returns-clause-planes c = search (rules, gathered_words, behind)
