use Rattle.std.{proofs.Common.{◌≡◌, sym, ap, subst, ◌∙◌, length, rules}, specs.Vec.{vec_len}}
use Rattle.zf_spec.specs.Grid.{blocks, IsShape}
use Rattle.zf_header.{specs.declared.header.Header.{Header}, specs.HeaderBits.{IsRate, rate_bytes_of}}
use Rattle.zf_store.specs.Stored.{Stored, code_at, format_of}
use Rattle.zf_store.proofs.Opened.{is_header}
use Rattle.zf_cache.proofs.Steps.{empty_fits}
use Rattle.zf_base.specs.Widths.{width_of}
use Rattle.zf_cached.specs.Changes.{opened, raised}
use Rattle.zf_array.{specs.Parts.{held_by}, proofs.Standing.{stored_held}}
use Rattle.zf_array.{proofs.Steps.{open_is, opens}, specs.Standing.{stored, format, array_of}}
use Rattle.zf_array.proofs.array.Array.from_file.Goals as goal

pub invariant_of-result : goal.invariant_of-result
invariant_of-result g c =
    let t = c.in_ok-store.store in
    let opened = c.in_ok-store.ensures.ok in
    let P : Header → Type 0 = λ h. (g.T.Lane.width ≡ width_of h.ty) × (length h.shape ≡ g.row.D) × IsShape h.shape × IsRate h.mode × (length t.codes ≡ blocks h.shape) × (vec_len c.args.file ≡ rate_bytes_of h) in
    let shape = (is_header c.args.file.items c.args.h.now c.requires.header).shape in
    let kept : P t.header = subst P (sym opened.header) (c.requires.same_type, c.requires.dims, shape, c.requires.header.rate, opened.count, sym c.deref.ensures.len ∙ opened.size) in
    let fits = empty_fits g.T.Lane.value (format_of t) (code_at t) c.in_ok-cache.cache c.raised.result c.in_ok-cache.ensures.empty in
    search rules

pub returns : goal.returns
unfolding array_of
returns g c =
    let t = c.in_ok-store.store in
    let is = c.in_ok-store.ensures.ok in
    let count = is.count ∙ ap (λ (h : Header). blocks h.shape) (sym is.header) in
    let fits = empty_fits g.T.Lane.value (format_of t) (code_at t) c.in_ok-cache.cache c.raised.result c.in_ok-cache.ensures.empty in
    let a = held_by g.T.Lane.value t c.in_ok-cache.cache in
    record {
      stored = rw (stored_held g.T.Lane.value t c.in_ok-cache.cache count fits, ← c.deref.ensures.value) is;
      state = opens g.T.Lane.value t _ c.raised.result count c.in_ok-cache.ensures.empty c.in_ok-cache.ensures.counts fits ∙ ap (opened (format a) (code_at (stored a))) c.raised.ensures.value
          ∙ ap (λ (k : Header). let s : Stored = record { header = k; codes = a.codes } in opened (format_of s) (code_at s) (raised c.args.lines)) is.header ∙ open_is g.T.Lane.width c.args.h.now a.codes c.args.lines c.requires.same_type;
      fault = tt;
    }
