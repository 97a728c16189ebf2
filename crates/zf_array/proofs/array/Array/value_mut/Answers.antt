use Rattle.zf_cached.specs.Arrays.{array_format}
use Rattle.std.proofs.Common.{refl, sym, ap, ◌∙◌, ◌+◌, ◌<◌, ◌≤◌, ◌^◌, Bool, List, [], ◌∷◌, lit<, arith, rules}
use Rattle.zf_base.specs.Formats.{Format}
use Rattle.zf_cached.{specs.State.{State}, specs.Touch.{touch_for_writing}}
use Rattle.zf_cached.{specs.Placing.{direct}, proofs.Caching.{touch_for_writing-dirty}}
use Rattle.zf_store.proofs.Kept.{blocks_is}
use Rattle.zf_array.{specs.Standing.{format, state}, specs.Parts.{held_by}}
use Rattle.zf_array.proofs.Standing.{has_blocks, format_now, joined_after, step, header_step, header_now}
use Rattle.zf_array.proofs.Lent.{joined_lent, ends_as, shown, part_of_one, state_spliced, value_there, value_ends, value_state, header_value}
use Rattle.zf_array.proofs.array.Array.value_mut.Goals as goal

pub place_in-b-requires : goal.place_in-b-requires
place_in-b-requires g c = let head = header_now _ _ _ _ _ _ c.self.invariant c.args.self.now c.self.view_is in search rules

pub touch_mut-requires : goal.touch_mut-requires
touch_mut-requires g c = let at = rw c.header.ensures.value at c.place_in-b.ensures.at in (lit< tt, search (rules, has_blocks, blocks_is))

pub dirty_value_mut-requires : goal.dirty_value_mut-requires
dirty_value_mut-requires g c = let at = rw c.header.ensures.value at c.place_in-b.ensures.at in search rules

pub invariant_of-self-lent : goal.invariant_of-self-lent
invariant_of-self-lent g c =
    let t = c.touch_mut.new.back in
    let e = c.touch_mut.new.self in
    let b = c.place_in-b.result.0 in
    let at = rw c.header.ensures.value at c.place_in-b.ensures.at in
    let place = rw c.self.invariant.dims at at.place_in_block in
    let joined = joined_after _ _ _ _ _ _ c.self.invariant t e c.touch_mut.ensures.step.kept c.touch_mut.ensures.step.fits in
    let after = step _ _ _ _ _ _ c.self.invariant c.args.self.now c.self.view_is t e c.touch_mut.ensures.step.kept c.touch_mut.ensures.step.fits (λ f u. touch_for_writing f u b) c.touch_mut.ensures.step.state in
    λ w. joined_lent _ _ _ _ _ _ joined (held_by g.T.Lane.value t e) refl b c.place_in-b.result.1 1 (search (rules, after, touch_for_writing-dirty)) (omega (arith, place)) c.dirty_value_mut.ensures.size (w ∷ [])

pub returns : goal.returns
unfolding array_format
returns g c =
    let t = c.touch_mut.new.back in
    let e = c.touch_mut.new.self in
    let given = c.touch_mut.ensures.step in
    let b = c.place_in-b.result.0 in
    let k = c.place_in-b.result.1 in
    let now = c.args.self.now in
    let value = g.T.Lane.value in
    let head = c.header.ensures.value ∙ sym (header_now _ _ _ _ _ _ c.self.invariant now c.self.view_is) in
    let at = rw c.header.ensures.value at c.place_in-b.ensures.at in
    let place = rw c.self.invariant.dims at at.place_in_block in
    let one : k + 1 ≤ 4 ^ g.row.D = omega (arith, place) in
    let joined = joined_after _ _ _ _ _ _ c.self.invariant t e given.kept given.fits in
    let after = step _ _ _ _ _ _ c.self.invariant now c.self.view_is t e given.kept given.fits (λ f u. touch_for_writing f u b) given.state in
    let dirty = ap (λ (u : State (List Bool)). u.dirty b) after ∙ touch_for_writing-dirty direct (format now) (state now) b in
    let a = held_by value t e in
    let r = c.dirty_value_mut.result.now in
    let is_r = part_of_one _ _ _ _ _ _ joined a refl b k 1 dirty one c.dirty_value_mut.ensures.size refl r c.dirty_value_mut.ensures.value in
    let f_is = format_now _ _ _ _ _ _ c.self.invariant now c.self.view_is in
    let exists = ap (λ (f : Format (List Bool)). f.exists b k) f_is ∙ at.exists in
    let size = ap (λ (f : Format (List Bool)). f.block_len) f_is ∙ (has_blocks _ _ _ _ _ _ c.self.invariant).0 in
    let lt : k < (format now).block_len = omega (arith, size, place) in
    let same = header_step _ _ _ _ _ _ c.self.invariant now c.self.view_is t e given.kept given.fits in
    let shows = shown _ _ _ _ _ _ joined a refl b k 1 dirty one c.dirty_value_mut.ensures.size (r ∷ []) is_r in
    let at_block = rw head at c.place_in-b.ensures.block in
    let at_place = rw head at c.place_in-b.ensures.place in
    let written = state_spliced _ _ _ _ _ _ joined a refl b k 1 dirty one c.dirty_value_mut.ensures.size in (
      (refl, λ w. cc (ends_as _ _ _ _ _ _ joined a refl b k 1 dirty one c.dirty_value_mut.ensures.size (r ∷ []) is_r (w ∷ []), value_ends now a b k (value r) same after shows lt exists (value w))),
      record {
        writes_back = tt;
        value = cc (value_there now a b k (value r) same after shows lt exists);
        state = λ v. cc (value_state now a b k (value r) same after shows lt exists v (written (v ∷ [])));
        header = header_value now c.args.p;
      },
    )
