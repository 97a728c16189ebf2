use Rattle.std.proofs.Common.{◌≡◌, ◌+◌, ◌-◌, ◌*◌, ◌/◌, ◌%◌, ◌<◌, ◌≤◌, ⊎_elim, pos, map, get_or, ap, sym, ◌∙◌, arith}
use Rattle.std.proofs.lemmas.Bool.{cases_lt}
use Rattle.zf_pad.{specs.Stored.{raster_of, values_in}, proofs.StoredLines.{block_value, rest_value, others_fit, line_some}}
use Rattle.zf_pad.proofs.storing.copy_line.Goals as goal

pub copy_blocks-requires-clause-there : goal.copy_blocks-requires-clause-there
copy_blocks-requires-clause-there g c = λ b lt.
    omega (arith, c.line_at-n.ensures.fits.there b lt, c.requires.all)

pub returns-clause-before : goal.returns-clause-before
returns-clause-before g c = λ i lt.
    c.put_rest.ensures.others i (λ k s e. absurd (omega arith)) ∙ c.copy_blocks.ensures.before i lt

pub returns-clause-values : goal.returns-clause-values
returns-clause-values g c =
    let stored = map g.T.Lane.value c.args.stored.now in
    let count = c.args.count in
    let to = c.args.to + 4 * (count / 4) in
    let part = c.line_at-n.ensures.part in
    let w = g.T.Lane.width in
    let rest = c.put_rest.ensures in
    λ i lt.
    ⊎_elim
    (λ (l : i < 4 * (count / 4)).
    let place : 4 * (i / 4) + i % 4 ≡ i = omega arith in
    rest.others (c.args.to + i) (λ k s e. absurd (omega (arith, l, e)))
    ∙ ap (λ j. get_or (values_in w c.copy_blocks.new.piece) (c.args.to + j) (pos 0)) (sym place)
    ∙ c.copy_blocks.ensures.rows (i / 4) (i % 4) (omega (arith, l)) (omega arith)
    ∙ sym (block_value _ _ _ _ _ _ _ part stored (i / 4) (i % 4) (omega (arith, l)) (omega arith))
    ∙ ap (λ j. get_or (raster_of c.args.shape.now stored) (c.args.from + j) (pos 0)) place)
    (λ (l : 4 * (count / 4) ≤ i).
    let k = i - 4 * (count / 4) in
    let place : 4 * (count / 4) + k ≡ i = omega (arith, l) in
    let at : c.args.to + i ≡ to + k = omega (arith, place) in
    let small : k < count % 4 = omega (arith, lt, l) in
    ap (λ j. get_or (values_in w c.put_rest.new.piece) j (pos 0)) at
    ∙ rest.run k small
    ∙ sym (rest_value _ _ _ _ _ _ _ part stored k small)
    ∙ ap (λ j. get_or (raster_of c.args.shape.now stored) (c.args.from + j) (pos 0)) place)
    (cases_lt i (4 * (count / 4)))

pub nonzero_rem-x : goal.nonzero_rem-x
nonzero_rem-x g c = omega (arith, line_some _ c.line_at-n.ensures.part.shape, c.line_at-n.ensures.part.n_is)

pub overflow_mul-lines : goal.overflow_mul-lines
overflow_mul-lines g c = omega (arith, others_fit _ c.line_at-n.ensures.part.shape)

pub put_rest-requires-clause-room : goal.put_rest-requires-clause-room
put_rest-requires-clause-room g c = rw c.copy_blocks.auto.piece (omega arith)
