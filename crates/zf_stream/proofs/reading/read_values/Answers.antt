use Rattle.std.proofs.Common.{rules, ◌≡◌, ℕ, ◌+◌, ◌-◌, ◌*◌, ◌/◌, ◌≤◌, ◌++◌, map, length, take, drop, sym, ap, ◌∙◌, arith}
use Rattle.std.{proofs.lemmas.Grind.{common_steps}, proofs.lemmas.Result.{err_from_is_err_and}}
use Rattle.std.proofs.lemmas.List.{take_at, length-take, length-take-le, length-drop}
use Rattle.std.proofs.Math.Nat.{add-mul, div-mul-le_self, mul-le-mul_right}
use Rattle.zf_spec.specs.Stream.{values_from}
use Rattle.zf_dev.proofs.Giving.{Gives-append}
use Rattle.zf_stream.{proofs.ReadingValues.{reads_more, lacks_behind}, proofs.Failing.{Reads-ok}}
use Rattle.zf_stream.proofs.reading.read_values.Goals as goal

-- so many values fit into a piece
fits_piece : (n most len room : ℕ) → n ≤ most → most ≡ room / len → n * len ≤ room
fits_piece n most len room within is = search (rules, mul-le-mul_right, div-mul-le_self)

pub returns-in_err-read_raw-clause-err : goal.returns-in_err-read_raw-clause-err
returns-in_err-read_raw-clause-err g c = search (rules, fits_piece, mul-le-mul_right, add-mul, length-take-le, err_from_is_err_and, lacks_behind)

pub returns-in_err-read_raw-clause-gave_some : goal.returns-in_err-read_raw-clause-gave_some
returns-in_err-read_raw-clause-gave_some g c =
    let done = c.loop-at.invariant.done in
    let more = c.read_raw.ensures.gave_some in
    (done.bytes ++ more.0, Gives-append done.bytes more.0 done.given more.1)

pub loop-at-preserved : goal.loop-at-preserved
loop-at-preserved g c =
    let len = c.value_len-len.result in
    let at = c.loop-at.at in
    let n = c.min-n.result in
    let w = g.T.Lane.width in
    let value = g.T.Lane.value in
    let xs = c.loop-at.values in
    let ys = c.put_values.new.values in
    let more = c.read_raw.new.raw in
    let rest = drop (n * len) c.loop-at.piece in
    let k = at + n - at in
    let old = g.S.Source.contents c.args.src.now in
    let mid = g.S.Source.contents c.loop-at.src in
    let now = g.S.Source.contents c.read_raw.new.src in
    let fits = fits_piece n (length c.args.piece.now / len) len (length c.loop-at.piece) (omega (arith, c.min-n.ensures)) (ap (λ m. m / len) (sym c.loop-at.auto.piece)) in
    let long : length more ≡ n * len = c.read_raw.auto.raw ∙ length-take-le (n * len) c.loop-at.piece fits in
    let count : length ys ≡ n = omega (arith, c.put_values.auto.values, length-take k (drop at xs), length-drop at xs, c.min-n.ensures, c.loop-at-test.true) in
    let piece : take (n * len) (more ++ rest) ≡ more = take_at more rest (n * len) long in
    let are : map value ys ≡ values_from w n more = c.put_values.ensures ∙ ap (λ j. values_from w j (take (n * len) (more ++ rest))) count ∙ ap (values_from w n) piece in search (rules, reads_more)

pub returns-in_err-read_raw-clause-source : goal.returns-in_err-read_raw-clause-source
returns-in_err-read_raw-clause-source g c = search (rules, err_from_is_err_and)

pub returns-clause-source : goal.returns-clause-source
returns-clause-source g c = Reads-ok tt c.loop-at.invariant.source

pub returns-clause-ok : goal.returns-clause-ok
returns-clause-ok g c = grind (arith, common_steps)
