use Rattle.std.proofs.Common.{◌≡◌, ℕ, ◌-◌, ap, sym, ◌∙◌, ◌≤◌, max, length, take, drop, drop_at, arith}
use Rattle.std.proofs.lemmas.List.{length-take, length-drop}
use Rattle.zf_spec.specs.Stream.{to_bits}
use Rattle.zf_bits.specs.Reader.{Reader, rest, Reads}
use Rattle.zf_block.specs.WholePlanes.{rate_whole_from}
use Rattle.zf_bound.proofs.Cuts.{code_is}
use Rattle.zf_bound.proofs.planes.code_plane.Goals as goal

-- behind bits that were passed
passed : (n : ℕ) (old new : Reader) → n ≤ length (rest old) → Reads old new (take n (rest old)) → rest new ≡ drop n (rest old)
passed n old new there reads = sym (ap (drop n) reads.next ∙ drop_at (take n (rest old)) (rest new) n (omega (arith, length-take n (rest old), there)))

pub plane_from-requires-clause-enough : goal.plane_from-requires-clause-enough
plane_from-requires-clause-enough g c =
    let n = c.args.span.at - c.args.from in
    let behind = passed n c.args.reader c.skip.new.self (omega (arith, c.requires.there)) c.skip.ensures in
    omega (arith, ap length behind, length-drop n (rest c.args.reader), c.requires.there)

pub returns-clause-value : goal.returns-clause-value
returns-clause-value g c =
    let n = c.args.span.at - c.args.from in
    let behind = passed n c.args.reader c.skip.new.self (omega (arith, c.requires.there)) c.skip.ensures in
    let same = ap (take c.args.span.len) behind ∙ code_is (to_bits c.args.file.now) (rest c.args.reader) c.args.from c.args.span.at c.args.span.len c.requires.bits c.requires.behind c.requires.there in
    c.plane_from.ensures.plane ∙ ap (λ s. max c.args.least (rate_whole_from g.T.Lane.width c.args.d.count s)) same
