use Rattle.std.proofs.Common.{rules, ◌∙◌, subst, length}
use Rattle.zf_base.specs.Positions.{used_axes}
use Rattle.zf_store.specs.Stored.{format_of, code_at}
use Rattle.zf_run.{specs.Pairs.{pair_state}, proofs.Sessions.{changed_there, two_suits, still_array, rate_blocks}}
use Rattle.zf_run.proofs.Pairing.{IsPlaced, block_below, place_below, place_exists, put_two, same_header, same_pair}
use Rattle.zf_run.proofs.pairs.PairChanging.put.Goals as goal

pub set-requires : goal.set-requires
set-requires g c =
    let there = subst (IsPlaced c.args.p c.place-b.result.0 c.place-b.result.1) c.header.ensures.value (record { block = c.place-b.ensures.block; place = c.place-b.ensures.place; at = c.place-b.ensures.at }) in
    let below = there.at.block_in_array in search (rules, rate_blocks, block_below, place_below)

pub returns : goal.returns
returns g c =
    let s = c.args.self.now.store.now in let k = c.args.self.now.cache.now in let value = g.T.Lane.value in let w = g.T.Lane.width in
    let b = c.place-b.result.0 in let p = c.place-b.result.1 in let array = c.requires.sound.array in let ps = used_axes (length s.header.shape) c.args.p in
    let there = subst (IsPlaced c.args.p b p) c.header.ensures.value (record { block = c.place-b.ensures.block; place = c.place-b.ensures.place; at = c.place-b.ensures.at }) in
    let step = c.set.ensures.step in let t = c.set.new.back in let head = same_header s.header t.header _ _ step.kept in record {
      does = changed_there (pair_state value s k) ps b p (λ old. value c.args.v) (step.state ∙ put_two value (format_of s) k (code_at s) b p (value c.args.v) (place_exists s.header ps b p there.at))
          (two_suits w s.header array.same_type) head there.block there.place;
      sound = record { array = still_array w g.row.D s.header t.header head array; fits = step.fits };
      kept = same_pair _ _ s.header t.header head;
    }
