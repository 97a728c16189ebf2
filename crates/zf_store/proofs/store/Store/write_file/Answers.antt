use Rattle.std.proofs.Common.{ap, arith}
use Rattle.zf_spec.specs.Numbers.{word_bits}
use Rattle.zf_store.{specs.Stored.{file_of}, proofs.Kept.{file_is, bits_most}}
use Rattle.zf_store.proofs.store.Store.write_file.Goals as goal

pub write_bytes-requires-clause-small : goal.write_bytes-requires-clause-small
write_bytes-requires-clause-small g c =
    omega (arith, c.code_bits.ensures.value, c.len.ensures.count, bits_most _ _ _ _ _ _ c.self.invariant)

pub returns : goal.returns
returns g c =
    let file = file_is _ _ _ _ _ _ c.self.invariant (word_bits c.words.result.now) c.len.result c.code_bits.result c.words.ensures.bits c.len.ensures.count c.code_bits.ensures.value in
    cc (c.write_bytes.ensures, c.deref.ensures.value, ap file_of c.self.view_is)
