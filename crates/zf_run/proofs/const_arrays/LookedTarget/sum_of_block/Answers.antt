use Rattle.std.{proofs.Common.{rules, sym, ap, subst, ◌∙◌, List, Bool, length}, proofs.lemmas.List.{length-map}}
use Rattle.zf_spec.specs.Grid.{IsShape}
use Rattle.zf_header.specs.declared.header.Header.{Header}
use Rattle.zf_const.specs.Standing.{state}
use Rattle.zf_run.{specs.Sessions.{stream_of}, proofs.Looking.{stream_after, with_name}, proofs.Sessions.{sum_is, touched_is, look_suits}}
use Rattle.zf_commands.proofs.Passing.{block_room}
use Rattle.zf_run.proofs.const_arrays.LookedTarget.sum_of_block.Goals as goal

pub sum_within-requires : goal.sum_within-requires
sum_within-requires g c = block_room c.shape.result g.row.D (subst IsShape (sym c.shape.ensures.value) c.shape.ensures.header.shape) c.shape.ensures.dims (length c.block.result.now) c.block.ensures.size

pub returns-clause-touched : goal.returns-clause-touched
returns-clause-touched g c =
    let a = c.args.self.now.array.now in let ends = c.block.follows.holds-at-none in let same = ap stream_of ends ∙ stream_after a c.args.b in record {
      does = touched_is (state a) c.args.b (ap state ends ∙ c.block.ensures.state) (look_suits g.T.Lane.width a.header) (ap (λ (q : Header × List (List Bool)). q.0) same);
      sound = tt;
      kept = ap (with_name _) same;
    }

pub returns-clause-sum : goal.returns-clause-sum
returns-clause-sum g c = search (rules, sum_is, length-map)
