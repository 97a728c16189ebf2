use Rattle.std.proofs.Common.{rules, ◌≡◌, ◌+◌, ◌<◌, Bool, List, ◌++◌, map, take, drop, sym, ap, ◌∙◌, arith, append_assoc}
use Rattle.std.proofs.lemmas.Nat.{le_or_l, le_or_r}
use Rattle.zf_spec.{specs.Numbers.{field}, specs.Planes.{code_from}, specs.HeldPlanes.{planes_held}}
use Rattle.zf_planes.{proofs.Unpacking.{code_next}, proofs.Narrow.{narrow_two}}
use Rattle.zf_planes.proofs.word_writing.narrow_planes.Goals as goal

pub loop-i-preserved : goal.loop-i-preserved
loop-i-preserved g c =
    let part = c.loop-i.part in
    let two = c.code_of_two-two in
    let first = c.first_word-first in
    let second = c.first_word-second in
    let low : first.result < 8 = omega (arith, c.if-first-second-gt7.false, le_or_l first.result second.result) in
    let low' : second.result < 8 = omega (arith, c.if-first-second-gt7.false, le_or_r first.result second.result) in
    let rest = code_from two.result.above (drop (c.loop-i.i + 2) (take c.args.prec (planes_held c.args.size (map g.P.Plane.words c.args.planes.now)))) in
    record {
      code =
          c.loop-i.invariant.code
          ∙ ap (λ (bs : List Bool). field part.len part.bits ++ bs) (search (rules, narrow_two))
          ∙ sym (append_assoc (field part.len part.bits) (field two.result.part.len two.result.part.bits) rest)
          ∙ ap (λ (bs : List Bool). bs ++ rest) (sym c.join-part.ensures.bits);
      next = omega (arith, c.loop-i-test.true);
      small = c.join-part.ensures.small two.ensures.small;
      len = omega (arith, c.join-part.ensures.len, c.if-part-le50.true, two.ensures.len);
      above = two.result.within;
    }

pub loop-digits-preserved : goal.loop-digits-preserved
loop-digits-preserved g c =
    let words = g.P.Plane.words in
    let size = c.args.size in
    let part = c.loop-digits.part in
    let more = c.plain_plane in
    let joined = c.join-part-in-loop-digits in
    let plane = c.index-planes-planes-in-loop-digits.result in
    let rest = drop (c.loop-digits.i + 1) (take c.args.prec (planes_held size (map words c.args.planes.now))) in
    let three : c.loop-i.above ≡ 3 = c.loop-digits-test.true in
    let back : code_from 3 (drop c.loop-digits.i (take c.args.prec (planes_held size (map words c.args.planes.now)))) ≡ field more.result.len more.result.bits ++ code_from 3 rest =
    cc (
      code_next words 3 c.args.prec size c.loop-digits.i c.args.planes.now plane c.index-planes-planes-in-loop-digits.is c.if-i-prec.true c.requires.planes,
      c.first_word-digits.ensures.digits,
      more.ensures.code,
      more.ensures.same,
    ) in
    record {
      code = cc (
        c.loop-digits.invariant.code,
        back,
        three,
        joined.ensures.bits,
        append_assoc (field part.len part.bits) (field more.result.len more.result.bits) (code_from 3 rest),
      );
      next = omega (arith, c.if-i-prec.true);
      small = joined.ensures.small more.ensures.small;
      len = omega (arith, joined.ensures.len, c.if-part-le60.true, more.ensures.shorter c.requires.some);
      above = c.loop-digits.invariant.above;
    }
