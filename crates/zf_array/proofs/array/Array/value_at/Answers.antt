use Rattle.std.proofs.Common.{sym, ap, ◌∙◌, pos, Bool, List, get_or, lit<, rules}
use Rattle.std.{proofs.lemmas.Bool.{OnTrue_at}, specs.Vec.{vec_len}}
use Rattle.zf_cached.{specs.State.{State}, specs.Touch.{touch}, specs.Arrays.{array_format}}
use Rattle.zf_cache.specs.Standing.{state_at}
use Rattle.zf_store.proofs.Kept.{blocks_is}
use Rattle.zf_array.proofs.Standing.{header_now, has_blocks, joined_after, state_after, step, header_step}
use Rattle.zf_array.proofs.array.Array.value_at.Goals as goal

pub returns : goal.returns
unfolding state_at array_format
returns g c =
    let s = c.self.inside in
    let at = rw (header_now _ _ _ _ _ _ c.self.invariant c.args.self.now c.self.view_is) at c.requires.1 in
    let after = state_after g.T.Lane.value g.T.Lane.width g.row.D s.store s.cache (vec_len s.buffer) c.self.invariant c.get.new.back c.get.new.self c.get.ensures.step.kept c.get.ensures.step.fits in
    record {
      state = step _ _ _ _ _ _ c.self.invariant c.args.self.now c.self.view_is c.get.new.back c.get.new.self c.get.ensures.step.kept c.get.ensures.step.fits (λ f u. touch f u c.args.b) c.get.ensures.step.state;
      value = OnTrue_at at.exists c.get.ensures.value ∙ ap (λ (u : State (List Bool)). get_or (u.values c.args.b) c.args.place (pos 0)) (sym after);
      header = search (rules, header_step);
    }

pub get-requires : goal.get-requires
get-requires g c =
    let at = rw (header_now _ _ _ _ _ _ c.self.invariant c.args.self.now c.self.view_is) at c.requires.1 in
    let place = rw c.self.invariant.dims at at.place_in_block in (lit< tt, search (rules, has_blocks, blocks_is))

pub invariant_of-self : goal.invariant_of-self
invariant_of-self g c = search (rules, joined_after)
