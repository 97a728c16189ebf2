use Rattle.std.proofs.Common.{rules, ◌≡◌, ℕ, ◌+◌, ◌*◌, ◌/◌, ◌%◌, ◌<◌, ◌≤◌, [], ◌∷◌, ap, sym, subst, ◌∙◌, mul-le-mul_left, arith}
use Rattle.zf_spec.specs.Grid.{product, coordinates}
use Rattle.zf_pad.{specs.Stored.{other_sizes, IsLine, IsKnown}, proofs.StoredLines.{others_fit, lines_behind, left_below, left_within}}
use Rattle.zf_pad.proofs.storing.known_line.Goals as goal

-- what fits along two axes fits along three
chain : (ny nz nw a b : ℕ) → b ≤ nw * 1 → a ≤ nz * b → ny * a ≤ ny * (nz * (nw * 1))
chain ny nz nw a b inner outer = search (rules, mul-le-mul_left)

sizes : (ny nz nw y z w : ℕ) → ny ≡ y → nz ≡ z → nw ≡ w → ny * (nz * (nw * 1)) ≡ y * (z * (w * 1))
sizes ny nz nw y z w e f g = ap (λ k. k * (nz * (nw * 1))) e ∙ ap (λ k. y * (k * (nw * 1))) f ∙ ap (λ k. y * (z * (k * 1))) g

pub along-requires-3-clause-fits : goal.along-requires-3-clause-fits
along-requires-3-clause-fits c = search (rules, chain, sizes, others_fit)

pub returns-clause-known : goal.returns-clause-known
returns-clause-known c =
    let ny = c.size-ny.result in
    let others = c.size-nz.result ∷ c.size-nw.result ∷ [] in
    let k = c.args.number in
    let y = c.along-3.ensures in
    let inner : IsLine others (coordinates others (k / ny)) c.along-2.result.first c.along-2.result.lines c.along-2.result.line = search rules in
    let some : 0 < ny = search rules in
    let on : k % ny + c.min.result < ny = omega (arith, c.min.ensures, some) in
    let few : k % ny % 4 + c.min.result < 4 = omega (arith, c.min.ensures) in
    let sizes : ny ∷ others ≡ other_sizes c.args.shape.now = (λ i. c.size-ny.ensures i ∷ c.size-nz.ensures i ∷ c.size-nw.ensures i ∷ []) in
    subst (λ ms. IsKnown ms (record { number = k; line = c.along-3.result; left = c.min.result })) sizes (record {
      each = lines_behind ny others k c.min.result c.along-2.result c.along-3.result inner y.first y.lines y.line c.along-2.ensures.below on few;
      below = left_below ny others k c.min.result c.along-2.result c.along-3.result inner y.first y.lines y.line c.along-2.ensures.below on few;
      fits = search (rules, chain);
      within = left_within ny others k c.min.result c.along-2.result c.along-3.result inner y.first y.lines y.line c.along-2.ensures.below on few (subst (λ ms. k < product ms) (sym sizes) c.requires);
    })
