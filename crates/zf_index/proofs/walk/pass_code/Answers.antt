use Rattle.std.proofs.Common.{◌≡◌, sym, ap, ◌∙◌, ℕ, List, length, replicate, arith, rules}
use Rattle.std.proofs.lemmas.List.{length-replicate, length-take}
use Rattle.zf_bits.specs.Reader.{rest}
use Rattle.zf_parse.specs.Parsing.{read_code}
use Rattle.zf_index.{proofs.Longest.{code_few}}
use Rattle.zf_index.proofs.walk.pass_code.Goals as goal

pub overflow_cast-result : goal.overflow_cast-result
overflow_cast-result g c =
    let h = c.args.h.now in
    let old = c.args.reader.now in
    let d = length h.shape in
    let one : ℕ = 1 in
    let es : List ℕ = replicate d one in
    let long : length es ≡ d = length-replicate d one in
    let read = c.in_ok-read_code.ensures.some in
    let few = code_few h.ty h.mode es (rest old) _ _ c.requires.header.mode (omega (arith, long, c.requires.header.shape.four_at_most))
    (ap (λ w. read_code w h.mode es (rest old)) (sym c.requires.same_type) ∙ read.code es long) in
    omega (arith, few, c.at.ensures, c.at-start.ensures)

pub returns-clause-some : goal.returns-clause-some
returns-clause-some g c = search (rules, length-take)
