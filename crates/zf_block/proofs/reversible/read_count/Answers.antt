use Rattle.std.proofs.Common.{◌≡◌, ◌+◌, ◌-◌, ◌*◌, ◌%◌, ◌^◌, sym, ap, ◌∙◌, arith}
use Rattle.std.proofs.lemmas.Nat.{one_shl}
use Rattle.zf_spec.{proofs.Fields.{field-mod}}
use Rattle.zf_bits.{proofs.Reading.{Reads-same}}
use Rattle.zf_block.proofs.reversible.read_count.Goals as goal

pub returns-clause-reads : goal.returns-clause-reads
returns-clause-reads g c =
    let n = c.count_bits-bits.result in
    let word = c.args.word in
    let power : 1 * 2 ^ n % 2 ^ 64 ≡ 2 ^ n = one_shl n 64 (omega (arith, c.count_bits-bits.ensures.bound)) in
    let less : word % (1 * 2 ^ n % 2 ^ 64) + 1 - 1 ≡ word % 2 ^ n = omega arith ∙ ap (λ p. word % p) power in
    let seen = c.requires.next n (omega (arith, c.count_bits-bits.ensures.bound)) (omega (arith, c.left.ensures.count, c.from.ensures, c.from-2.ensures)) in
    rw (← c.count_bits-bits.ensures.value, less) (Reads-same (rw c.from-2.ensures at c.skip.ensures) (sym (field-mod n word ∙ seen)))
