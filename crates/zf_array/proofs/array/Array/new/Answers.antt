use Rattle.std.proofs.Common.{sym, ap, ◌∙◌, rules}
use Rattle.zf_cache.proofs.Steps.{empty_fits}
use Rattle.zf_store.specs.Stored.{Stored, code_at, format_of}
use Rattle.zf_header.specs.HeaderBits.{rate_bytes_of}
use Rattle.zf_array.{proofs.Standing.{stored_held}, proofs.Steps.{new_is, opens}}
use Rattle.zf_array.proofs.array.Array.new.Goals as goal

pub invariant_of-result : goal.invariant_of-result
invariant_of-result g c =
    let t = c.in_ok-store.store in
    let whole = c.header-header.ensures.whole in
    let fits = empty_fits g.T.Lane.value (format_of t) (code_at t) c.in_ok-cache.cache c.raised.result c.in_ok-cache.ensures.empty in
    let room_is = c.in_ok-buffer.ensures ∙ ap (λ (u : Stored). rate_bytes_of u.header) (sym c.in_ok-store.ensures) in search rules

pub returns : goal.returns
returns g c =
    let t = c.in_ok-store.store in
    let count = c.header-header.ensures.whole.count in
    let fits = empty_fits g.T.Lane.value (format_of t) (code_at t) c.in_ok-cache.cache c.raised.result c.in_ok-cache.ensures.empty in
    let is = stored_held g.T.Lane.value t _ count fits ∙ c.in_ok-store.ensures in
    let made = opens g.T.Lane.value t _ c.raised.result count c.in_ok-cache.ensures.empty c.in_ok-cache.ensures.counts fits in
    record { stored = is; state = made ∙ search (rules, is, new_is) }
