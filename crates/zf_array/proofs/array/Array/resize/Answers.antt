use Rattle.std.{proofs.Common.{sym, ap, ◌∙◌, length, rules}, specs.Vec.{vec_len}}
use Rattle.zf_cache.proofs.Steps.{empty_fits}
use Rattle.zf_header.{specs.declared.header.Header.{Header}, specs.HeaderBits.{rate_bytes_of}}
use Rattle.zf_store.specs.Stored.{Stored, zeros, code_at, format_of}
use Rattle.zf_array.proofs.Standing.{stored_held, state_now, header_now}
use Rattle.zf_array.proofs.Steps.{same_ty, resizes}
use Rattle.zf_array.proofs.array.Array.resize.Goals as goal

pub invariant_of-self : goal.invariant_of-self
invariant_of-self g c =
    let t = c.in_ok-store.store in
    let whole = c.header-header.ensures.whole in
    let fits = empty_fits g.T.Lane.value (format_of t) (code_at t) c.discard.new.self (length c.self.inside.cache.tags) c.discard.ensures.empty in
    let room_is = c.in_ok-buffer.ensures ∙ ap (λ (u : Stored). rate_bytes_of u.header) (sym c.in_ok-store.ensures) in search rules

pub returns : goal.returns
returns g c =
    let s = c.self.inside in
    let t = c.in_ok-store.store in
    let bits = c.bits-bits.ensures.value in
    let head = header_now g.T.Lane.value g.T.Lane.width g.row.D s.store s.cache (vec_len s.buffer) c.self.invariant c.args.self.now c.self.view_is in
    let was = state_now g.T.Lane.value g.T.Lane.width g.row.D s.store s.cache (vec_len s.buffer) c.self.invariant c.args.self.now c.self.view_is in
    let fits = empty_fits g.T.Lane.value (format_of t) (code_at t) c.discard.new.self (length c.self.inside.cache.tags) c.discard.ensures.empty in
    let ty = same_ty g.T.Lane.TY s.store.header.ty (sym g.met.T.Lane.width_of_type ∙ c.self.invariant.same_type) ∙ ap (λ (h : Header). h.ty) (sym head) in
    let made = resizes g.T.Lane.value s.store s.cache t _ g.T.Lane.TY c.args.shape c.bits-bits.result c.in_ok-store.ensures c.discard.ensures.empty c.discard.ensures.counts fits in
    record { stored = stored_held g.T.Lane.value t _ c.header-header.ensures.whole.count fits ∙ c.in_ok-store.ensures ∙ (λ i. zeros (ty i) c.args.shape (bits i)); ok = cc (bits); err = tt }
