use Rattle.std.proofs.Common.{◌-◌, refl, sym, ap, ◌∙◌, arith}
use Rattle.zf_bits.specs.Reader.{Reader}
use Rattle.zf_block.proofs.FirstAlone.{whole_read, first_fits}
use Rattle.zf_block.proofs.first_code.code_behind.Goals as goal

pub overflow_add-result : goal.overflow_add-result
overflow_add-result c = omega (arith, first_fits (c.args.prec - c.args.zeros - 1) c.in_ok-digits.digits c.in_ok-digits.ensures.small (omega (arith, c.requires.in_word)))

pub returns : goal.returns
returns c =
    let z = c.args.zeros in
    let n = c.args.prec - z - 1 in
    let len = c.at.result - c.at-2.result in
    rw (← c.another-place.ensures) (whole_read c.args.prec z c.peek.result c.in_ok-digits.digits n len c.at-2.result c.at.result (omega arith) (λ e. grind (arith, e, c.requires.more)) c.requires.in_word refl c.peek.ensures (omega arith) (omega (arith, c.left.ensures.count))
    (c.if-not-are_zeros.ensures.0 refl).1 (rw c.from.ensures at c.skip.ensures) c.skip-2.ensures c.in_ok-digits.ensures refl (c.at-2.ensures ∙ ap (λ (r : Reader). r.at) (sym c.another-place.ensures)) c.at.ensures)
