use Rattle.std.proofs.Common.{◌≡◌, sym, subst, ◌∙◌, ℕ, Bool, List, [], take, drop, map, rules}
use Rattle.std.proofs.lemmas.List.{length-take-le}
use Rattle.zf_spec.specs.Numbers.{word_bits}
use Rattle.zf_base.specs.Formats.{existing_of, meant}
use Rattle.zf_bits.specs.Reader.{Reader, rest}
use Rattle.zf_store.specs.Stored.{Stored, format_of, code_at}
use Rattle.zf_store.proofs.Kept.{bits_within, below_blocks, line_size, code_there, code_read, read_is_meant}
use Rattle.zf_store.proofs.store.StoreReading.load.Goals as goal

pub code_place-requires-clause-block : goal.code_place-requires-clause-block
code_place-requires-clause-block g c = below_blocks c.args.self.now c.self.inside.header _ c.args.b c.self.view_is c.requires.block

pub seek-requires : goal.seek-requires
seek-requires g c =
    let all = bits_within _ _ _ _ _ _ c.self.invariant in rw (c.new-reader.ensures, c.deref.ensures.value) (search (rules, length-take-le))

pub decode_rate-requires-clause-block : goal.decode_rate-requires-clause-block
decode_rate-requires-clause-block g c = rw c.new.ensures (line_size c.args.self.now c.self.inside.header _ g.row.D _ c.self.view_is c.self.invariant.dims c.requires.whole)

-- what is left is the code and what stands behind
left_is : (reader new : Reader) (at m n k : ℕ) (bits : List Bool) (old words : List ℕ) → reader ≡ record { all = take n (word_bits old); at = 0 } → new ≡ record { all = reader.all; at = at } → old ≡ words → at ≡ m → n ≡ k
    → rest new ≡ drop m (take k (word_bits words))
left_is reader new at m n k bits old words is sought is_old is_at is_n = cc

pub decode_rate-requires-clause-enough : goal.decode_rate-requires-clause-enough
decode_rate-requires-clause-enough g c =
    let below = below_blocks c.args.self.now c.self.inside.header _ c.args.b c.self.view_is c.requires.block in
    let room = code_there _ _ _ _ _ _ c.self.invariant c.args.b below in rw (c.seek.ensures, c.new-reader.ensures, c.deref.ensures.value, c.code_place.ensures.value, c.code_bits.ensures.value, c.rate-bits.ensures.value) room

pub returns-clause-value : goal.returns-clause-value
returns-clause-value g c =
    let s = c.self.inside in
    let b = c.args.b in
    let below = below_blocks c.args.self.now s.header _ b c.self.view_is c.requires.block in
    let left = left_is c.new-reader.result c.seek.new.self c.code_place.result _ c.code_bits.result _ [] c.deref.result.now s.words.items
    c.new-reader.ensures c.seek.ensures c.deref.ensures.value c.code_place.ensures.value c.code_bits.ensures.value in
    let code = (λ i. take (c.rate-bits.ensures.value i) (left i)) ∙ code_read _ _ _ _ _ _ c.self.invariant b below in
    let P : Stored → Type 0 = λ t. existing_of (format_of t) b (map g.T.Lane.value c.decode_rate.new.block) ≡ meant (format_of t) b (code_at t b) in
    subst P c.self.view_is (read_is_meant _ _ _ _ _ _ c.self.invariant b below (take c.rate-bits.result (rest c.seek.new.self)) (map g.T.Lane.value c.decode_rate.new.block) code
    (λ es is. c.decode_rate.ensures.code es (is ∙ sym c.new.ensures)))
