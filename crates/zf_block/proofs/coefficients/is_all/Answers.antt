use Rattle.std.proofs.Common.{◌≡◌, ◌+◌, ◌*◌, take, drop, arith, take-add}
use Rattle.std.proofs.lemmas.List.{map-append, replicate-append-replicate}
use Rattle.zf_block.proofs.coefficients.is_all.Goals as goal

pub loop-row-preserved : goal.loop-row-preserved
loop-row-preserved g c =
    let value = g.T.Lane.value in
    let values = c.args.values.now in
    let n = 4 * c.loop-row.row in
    let more : 4 * (c.loop-row.row + 1) ≡ n + 4 = omega arith in
    let parts = map-append value (take n values) (take 4 (drop n values)) in
    let alike = replicate-append-replicate n 4 (value c.args.value) in
    cc (parts, alike, take-add n 4 values, c.is_row_of.ensures.0 c.if-not-is_row_of.false)
