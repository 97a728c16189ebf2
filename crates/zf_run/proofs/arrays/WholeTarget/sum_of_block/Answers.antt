use Rattle.std.{proofs.Common.{rules, ap, ◌∙◌, length}, proofs.lemmas.List.{length-map}}
use Rattle.zf_array.specs.Standing.{Held, shape, state}
use Rattle.zf_run.{proofs.Sessions.{touched_is, array_suits, same_whole, still_array, sum_is}, proofs.Changing.{header_after}}
use Rattle.zf_commands.proofs.Passing.{block_room}
use Rattle.zf_run.proofs.arrays.WholeTarget.sum_of_block.Goals as goal

pub sum_within-requires : goal.sum_within-requires
sum_within-requires g c = let is = c.requires.sound in block_room (shape c.args.self.now.array.now) g.row.D is.sizes is.dims (length c.block.result.now) c.block.ensures.size

pub returns-clause-touched : goal.returns-clause-touched
returns-clause-touched g c =
    let a = c.args.self.now.array.now in let w = g.T.Lane.width in let is = c.requires.sound in let ends = c.block.follows.holds-at-none in
    let head = ap (λ (x : Held). x.header) ends ∙ header_after a.header _ in record {
      does = touched_is (state a) c.args.b (ap state ends ∙ c.block.ensures.state) (array_suits w a.header is.same_type) head;
      sound = still_array w g.row.D a.header _ head is;
      kept = same_whole _ _ a.header _ head;
    }

pub returns-clause-sum : goal.returns-clause-sum
returns-clause-sum g c = search (rules, sum_is, length-map)
