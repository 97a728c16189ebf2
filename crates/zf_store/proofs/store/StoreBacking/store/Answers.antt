use Rattle.std.proofs.Common.{◌≡◌, sym, ap, ◌∙◌, ℕ, ◌++◌, Bool, List, [], length, map, rules}
use Rattle.std.proofs.lemmas.List.{take_at}
use Rattle.zf_spec.{specs.Codes.{rate}, specs.Grid.{extent_of}, specs.Numbers.{word_bits}}
use Rattle.zf_spec.proofs.BlockReading.{length-rate}
use Rattle.zf_base.{specs.Formats.{encoded, with_at}, specs.Positions.{used_axes}}
use Rattle.zf_header.specs.HeaderBits.{block_bits}
use Rattle.zf_store.{specs.Stored.{Stored, code_at, format_of}, specs.Words.{with_codes}}
use Rattle.zf_store.proofs.Kept.{below_blocks, line_size, put_is, kept_put, codes_put, code_is_encoded}
use Rattle.zf_store.proofs.store.StoreBacking.store.Goals as goal

pub extent-e-requires : goal.extent-e-requires
extent-e-requires g c = below_blocks c.args.self.now c.self.inside.header _ c.args.b c.self.view_is c.requires.block

pub encode_rate-requires-clause-block : goal.encode_rate-requires-clause-block
encode_rate-requires-clause-block g c = rw c.new-d.ensures (line_size c.args.self.now c.self.inside.header _ g.row.D _ c.self.view_is c.self.invariant.dims c.requires.whole)

pub code_place-requires-clause-block : goal.code_place-requires-clause-block
code_place-requires-clause-block g c = below_blocks c.args.self.now c.self.inside.header _ c.args.b c.self.view_is c.requires.block

-- the code that was written is as long as the rate says
long_code : (bits empty code : List Bool) (budget : ℕ) → bits ≡ empty ++ code → empty ≡ [] → length code ≡ budget → length bits ≡ budget
long_code bits empty code budget is none long = ap length (is ∙ ap (λ (bs : List Bool). bs ++ code) none) ∙ long

pub put_run-requires-clause-code : goal.put_run-requires-clause-code
put_run-requires-clause-code g c = search (rules, long_code, length-rate)

pub invariant_of-self : goal.invariant_of-self
invariant_of-self g c =
    let s = c.self.inside in
    let b = c.args.b in
    let below = below_blocks c.args.self.now s.header _ b c.self.view_is c.requires.block in
    let long = length-rate _ c.rate-bits.result _ _ ∙ c.rate-bits.ensures.value in
    let fresh = c.put_run.new.words in
    let count : length fresh ≡ length s.words.items = c.put_run.ensures.count ∙ ap length c.deref_mut.ensures.value in
    let put = put_is _ _ _ _ _ _ c.self.invariant b below c.deref_mut.result.now fresh c.words.result.now c.code_place.result c.from.result c.encode_rate.new.out.bits c.clear.new.self.bits _
    c.deref_mut.ensures.value c.code_place.ensures.value (c.from.ensures ∙ c.rate-bits.ensures.value) c.words.ensures.bits c.encode_rate.ensures.code.bits c.clear.ensures.bits long c.put_run.ensures.bits in
    let size = long_code c.encode_rate.new.out.bits c.clear.new.self.bits _ (block_bits s.header.mode) c.encode_rate.ensures.code.bits c.clear.ensures.bits long in
    rw (take_at fresh _ s.words.len (c.put_run.ensures.count ∙ c.deref_mut.ensures.len))
    (kept_put _ _ _ _ _ _ c.self.invariant b below _ fresh long count put c.encode_rate.new.out size)

pub returns-clause-codes : goal.returns-clause-codes
returns-clause-codes g c =
    let s = c.self.inside in
    let b = c.args.b in
    let values = map g.T.Lane.value c.args.line.now in
    let es = used_axes c.new-d.result.count c.extent-e.result.size in
    let below = below_blocks c.args.self.now s.header _ b c.self.view_is c.requires.block in
    let long = length-rate _ c.rate-bits.result _ _ ∙ c.rate-bits.ensures.value in
    let fresh = c.put_run.new.words in
    let count : length fresh ≡ length s.words.items = c.put_run.ensures.count ∙ ap length c.deref_mut.ensures.value in
    let put = put_is _ _ _ _ _ _ c.self.invariant b below c.deref_mut.result.now fresh c.words.result.now c.code_place.result c.from.result c.encode_rate.new.out.bits c.clear.new.self.bits _
    c.deref_mut.ensures.value c.code_place.ensures.value (c.from.ensures ∙ c.rate-bits.ensures.value) c.words.ensures.bits c.encode_rate.ensures.code.bits c.clear.ensures.bits long c.put_run.ensures.bits in
    let at : es ≡ extent_of s.header.shape b = ap (λ d. used_axes d c.extent-e.result.size) (c.new-d.ensures ∙ sym c.self.invariant.dims) ∙ c.extent-e.ensures.used_size in
    let is = ap (λ k. rate g.T.Lane.width k es values) c.rate-bits.ensures.value ∙ code_is_encoded _ _ _ _ _ _ c.self.invariant b below es values at in
    let Now : List ℕ → ℕ → List Bool = λ ws k. code_at (with_codes s.header (word_bits ws)) k in
    ap Now (take_at fresh _ s.words.len (c.put_run.ensures.count ∙ c.deref_mut.ensures.len)) ∙ codes_put _ _ _ _ _ _ c.self.invariant b below _ fresh long count put
    ∙ ap (λ (cs : List Bool). with_at (λ k. code_at (with_codes s.header (word_bits s.words.items)) k) b cs) is ∙ ap (λ (t : Stored). with_at (λ k. code_at t k) b (encoded (format_of t) b values)) c.self.view_is
