use Rattle.std.proofs.Common.{rules, ◌∙◌, sym, ap, subst, pos, ◌+ℤ◌, ◌<◌, Bool, List, length, set}
use Rattle.zf_spec.specs.Numbers.{wrap}
use Rattle.zf_base.{specs.Formats.{Format}, specs.Positions.{used_axes}}
use Rattle.zf_store.specs.Stored.{format_of, code_at}
use Rattle.zf_cache.specs.Loans.{lent_block_at}
use Rattle.zf_twoway.{specs.Standing.{state_of, Fits}, specs.Placing.{skewed, two_lines}}
use Rattle.zf_run.{specs.Pairs.{pair_state}, proofs.Sessions.{changed_there, two_suits, still_array, rate_blocks}}
use Rattle.zf_run.proofs.Pairing.{IsPlaced, block_below, place_below, place_exists, increase_two, same_header, same_pair}
use Rattle.zf_run.proofs.pairs.PairChanging.increase.Goals as goal

pub block_mut-line-requires : goal.block_mut-line-requires
block_mut-line-requires g c =
    let there = subst (IsPlaced c.args.p c.place-b.result.0 c.place-b.result.1) c.header.ensures.value (record { block = c.place-b.ensures.block; place = c.place-b.ensures.place; at = c.place-b.ensures.at }) in
    let below = there.at.block_in_array in search (rules, rate_blocks, block_below)

pub returns : goal.returns
returns g c =
    let s = c.args.self.now.store.now in let k = c.args.self.now.cache.now in let value = g.T.Lane.value in let w = g.T.Lane.width in
    let b = c.place-b.result.0 in let p = c.place-b.result.1 in let array = c.requires.sound.array in let ps = used_axes (length s.header.shape) c.args.p in
    let there = subst (IsPlaced c.args.p b p) c.header.ensures.value (record { block = c.place-b.ensures.block; place = c.place-b.ensures.place; at = c.place-b.ensures.at }) in
    let told = c.block_mut-line.ensures in let row = c.block_mut-line.result.now in let ws = set row p c.add.result in
    let t = c.block_mut-line.new.back in let lent = told.loan.written ws in
    let e = lent_block_at skewed value two_lines (format_of s) (code_at s) k b row ws in
    let head = same_header s.header t.header _ _ told.keeps.kept in
    let blocks = (rate_blocks w g.row.D s.header array).0 in
    let below = subst (λ n. p < n) (sym blocks) (place_below w g.row.D s.header array ps b p there.at) in record {
      does = changed_there (pair_state value s k) ps b p (λ old. wrap w (old +ℤ value c.args.v)) (ap (λ (f : Format (List Bool)). state_of value e f (code_at t)) told.keeps.format ∙ lent.state
          ∙ increase_two value (format_of s) k (code_at s) b row p c.index-line-place.result c.add.result c.args.v w (place_exists s.header ps b p there.at)
          (told.size ∙ sym blocks) below told.loan.held c.index-line-place.is c.add.ensures.value) (two_suits w s.header array.same_type) head there.block there.place;
      sound = record { array = still_array w g.row.D s.header t.header head array; fits = subst (λ (f : Format (List Bool)). Fits value e f (code_at t)) (sym told.keeps.format) lent.fits };
      kept = same_pair _ _ s.header t.header head;
    }
