use Rattle.std.proofs.Common.{◌≡◌, replicate, lit<, arith, rules}
use Rattle.std.proofs.lemmas.Result.{IfOk-weaker}
use Rattle.zf_spec.specs.Grid.{blocks}
use Rattle.zf_store.proofs.Cut.{codes_in-zeros}
use Rattle.zf_store.proofs.Kept.{blank_words}
use Rattle.zf_store.proofs.store.Store.zeros.Goals as goal

pub with_words-requires : goal.with_words-requires
with_words-requires g c =
    let items : c.in_ok-words.words.items ≡ replicate c.div_ceil-count.result 0 = c.in_ok-words.ensures.items_if_clones_equal (λ y same. same) in
    (lit< tt, search (rules, blank_words))

pub returns : goal.returns
returns g c =
    let items : c.in_ok-words.words.items ≡ replicate c.div_ceil-count.result 0 = c.in_ok-words.ensures.items_if_clones_equal (λ y same. same) in
    let codes = codes_in-zeros c.args.bits (blocks c.args.shape) c.div_ceil-count.result (omega (arith, c.div_ceil-count.ensures, c.code_bits.ensures.value)) in
    search (rules, IfOk-weaker)
