use Rattle.std.{proofs.Common.{rules, sym, ap, subst, ◌∙◌, Bool, List}, proofs.lemmas.List.{length-map}}
use Rattle.zf_base.specs.Formats.{Format}
use Rattle.zf_store.specs.Stored.{code_at}
use Rattle.zf_twoway.specs.Standing.{state_of, Fits}
use Rattle.zf_run.{specs.Pairs.{pair_state}, proofs.Sessions.{sum_is, touched_is, two_suits, still_array, rate_blocks}}
use Rattle.zf_run.proofs.Pairing.{block_below, same_header, same_pair}
use Rattle.zf_commands.proofs.Passing.{block_room}
use Rattle.zf_run.proofs.pairs.PairTarget.sum_of_block.Goals as goal

pub block-requires : goal.block-requires
block-requires g c = search (rules, rate_blocks, block_below)

pub sum_within-requires : goal.sum_within-requires
sum_within-requires g c = search (rules, block_room)

pub returns-clause-touched : goal.returns-clause-touched
returns-clause-touched g c =
    let s = c.args.self.now.store.now in let k = c.args.self.now.cache.now in let value = g.T.Lane.value in let w = g.T.Lane.width in
    let t = c.block.new.back in let e = c.block.follows.lender-at-none in let shows = c.block.ensures.shows in let array = c.requires.sound.array in
    let ends = c.block.follows.holds-at-none in let head = same_header s.header t.header _ _ shows.kept in record {
      does = touched_is (pair_state value s k) c.args.b (ap (λ (f : Format (List Bool)). state_of value e f (code_at t)) shows.format ∙ ends.state) (two_suits w s.header array.same_type) head;
      sound = record { array = still_array w g.row.D s.header t.header head array; fits = subst (λ (f : Format (List Bool)). Fits value e f (code_at t)) (sym shows.format) ends.fits };
      kept = same_pair _ _ s.header t.header head;
    }

pub returns-clause-sum : goal.returns-clause-sum
returns-clause-sum g c = search (rules, sum_is, length-map)
