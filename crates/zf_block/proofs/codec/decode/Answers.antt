use Rattle.std.proofs.Common.{refl}
use Rattle.zf_block.{proofs.Decoded.{passes_block, passes_zeros}, proofs.FirstAlone.{coefficients_first}}
use Rattle.zf_block.proofs.codec.decode.Goals as goal

pub returns-then-pass_zeros : goal.returns-then-pass_zeros
returns-then-pass_zeros g c =
    let d = c.args.d.count in
    let code = c.args.code.now in
    let zeros = c.if-pass_zeros.true in (
      tt,
      passes_zeros (g.C.BlockCode.len_at code) (g.C.BlockCode.planes_at code) c.args.reader.now c.pass_zeros.new.reader d _ refl
          g.T.Lane.width (g.C.BlockCode.back d) _ (c.pass_zeros.ensures.passes.1 zeros) _ c.args.d.range (c.pass_zeros.ensures.zeros zeros) c.zero.ensures.value c.inverse_of_first.ensures,
    )

pub returns-in-Some : goal.returns-in-Some
returns-in-Some g c =
    let d = c.args.d.count in
    let code = c.args.code.now in
    let coefficients = coefficients_first g.T.Lane.width d _ c.in-Some.digits _ c.args.d.range g.met.T.Lane.bits_of_width refl in
    rw (← c.pass_zeros.ensures.passes.0 (λ passed. cc)) (
      tt,
      passes_block (g.C.BlockCode.len_at code) (g.C.BlockCode.planes_at code) c.pass_zeros.new.reader c.read_first.new.reader d _ refl g.T.Lane.width (g.C.BlockCode.back d) _ c.in-Some.ensures.1
          _ c.in-Some.ensures.2 (cc (c.inverse_of_first-in-Some.ensures, c.from_digits.ensures.value, coefficients)),
    )

pub read_any-requires-clause-next : goal.read_any-requires-clause-next
read_any-requires-clause-next g c = rw (c.in_default.ensures.0, c.pass_zeros.ensures.passes.0 (λ passed. cc)) c.look-word.ensures

pub returns : goal.returns
returns g c = rw (← c.pass_zeros.ensures.passes.0 (λ passed. cc), ← c.in_default.ensures.0) c.read_any.ensures
