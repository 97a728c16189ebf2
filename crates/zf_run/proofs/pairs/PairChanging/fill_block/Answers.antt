use Rattle.std.proofs.Common.{rules, ◌∙◌, sym, ap, subst, Bool, List}
use Rattle.zf_base.specs.Formats.{Format}
use Rattle.zf_store.specs.Stored.{format_of, code_at}
use Rattle.zf_cache.specs.Loans.{lent_block_at}
use Rattle.zf_twoway.{specs.Standing.{state_of, Fits}, specs.Placing.{skewed, two_lines}}
use Rattle.zf_run.{specs.Pairs.{pair_state}, proofs.Sessions.{filled_is, filled_alike, two_suits, still_array, rate_blocks}}
use Rattle.zf_run.proofs.Pairing.{block_below, same_header, same_pair}
use Rattle.zf_run.proofs.pairs.PairChanging.fill_block.Goals as goal

pub block_mut-requires : goal.block_mut-requires
block_mut-requires g c = search (rules, rate_blocks, block_below)

pub returns : goal.returns
returns g c =
    let s = c.args.self.now.store.now in let k = c.args.self.now.cache.now in let value = g.T.Lane.value in let w = g.T.Lane.width in
    let told = c.block_mut.ensures in let row = c.block_mut.result.now in let ws = c.fill_line.new.line in
    let t = c.block_mut.new.back in let array = c.requires.sound.array in let lent = told.loan.written ws in
    let e = lent_block_at skewed value two_lines (format_of s) (code_at s) k c.args.b row ws in
    let head = same_header s.header t.header _ _ told.keeps.kept in record {
      does = filled_is (pair_state value s k) c.args.b (value c.args.v) _ (ap (λ (f : Format (List Bool)). state_of value e f (code_at t)) told.keeps.format ∙ lent.state)
          (filled_alike value row ws c.args.v _ c.fill_line.ensures (told.size ∙ sym (rate_blocks w g.row.D s.header array).0)) (two_suits w s.header array.same_type) head;
      sound = record { array = still_array w g.row.D s.header t.header head array; fits = subst (λ (f : Format (List Bool)). Fits value e f (code_at t)) (sym told.keeps.format) lent.fits };
      kept = same_pair _ _ s.header t.header head;
    }
