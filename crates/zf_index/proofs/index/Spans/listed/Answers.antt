use Rattle.std.proofs.Common.{◌≡◌, sym, ap, subst, ◌∙◌, ℕ, ◌*◌, ◌<◌, List, length, get_or, arith, rules}
use Rattle.zf_index.{specs.Spans.{Index, index_of, place, ArePlaces}, specs.Files.{IsIndexOf}}
use Rattle.zf_index.proofs.Read.{has_header, blocks_some}
use Rattle.zf_index.proofs.index.Spans.listed.Goals as goal

pub places_of-requires-clause-within : goal.places_of-requires-clause-within
places_of-requires-clause-within g c = search rules

-- the first of the places is the start
module _ (step start : ℕ) (lens xs places : List ℕ) (some : 0 < step) (is_lens : xs ≡ lens) (codes : 0 < length lens) (are : ArePlaces step (record { start = start; lens = xs }) places) where
  there : 0 < length places
  there = search rules

  first : get_or places 0 0 ≡ start
  first = are.each 0 there ∙ (let none : step * 0 ≡ 0 = omega arith in ap (place (record { start = start; lens = xs })) none)

  same : record { start = start; lens = xs } ≡ index_of places lens
  same = ap (λ k. record { start = k; lens = xs }) (sym first) ∙ ap (λ (ys : List ℕ). record { start = get_or places 0 0; lens = ys }) is_lens

pub invariant_of-result : goal.invariant_of-result
invariant_of-result g c =
    let step = g.row.STEP in
    let start = c.args.start in
    let lens = c.in_ok-lens.lens.items in
    let xs = c.deref.result.now in
    let places = c.in_ok-places.places.items in
    let is = c.in_ok-lens.ensures.ok in
    let codes : 0 < length lens = omega (arith, is.count, blocks_some c.args.file.now c.args.h.now (has_header c.args.file.now c.args.h.now c.args.start c.requires.begun)) in
    let known = same step start lens xs places c.requires.step c.deref.ensures.value codes c.in_ok-places.ensures in
    let Are : Index → Type 0 = λ i. ArePlaces step i places in
    let at : place (index_of places lens) (length lens) ≡ place (record { start = start; lens = lens }) (length lens) =
    ap (λ (i : Index). place i (length lens)) (sym known) ∙ ap (λ (ys : List ℕ). place (record { start = start; lens = ys }) (length lens)) c.deref.ensures.value in
    search rules

pub returns-clause-ok : goal.returns-clause-ok
returns-clause-ok g c =
    let start = c.args.start in
    let lens = c.in_ok-lens.lens.items in
    let xs = c.deref.result.now in
    let places = c.in_ok-places.places.items in
    let is = c.in_ok-lens.ensures.ok in
    let codes : 0 < length lens = omega (arith, is.count, blocks_some c.args.file.now c.args.h.now (has_header c.args.file.now c.args.h.now c.args.start c.requires.begun)) in
    let known = same g.row.STEP start lens xs places c.requires.step c.deref.ensures.value codes c.in_ok-places.ensures in
    let Is : Index → Type 0 = IsIndexOf c.args.file.now c.args.h.now in
    subst Is (ap (λ (ys : List ℕ). record { start = start; lens = ys }) (sym c.deref.ensures.value) ∙ known) is
