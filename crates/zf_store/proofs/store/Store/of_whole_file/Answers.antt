use Rattle.std.proofs.Common.{◌<◌, lit<, rules}
use Rattle.std.{proofs.lemmas.Result.{IfOk-weaker}, proofs.lemmas.List.Elements.{All-from_get_or}}
use Rattle.zf_store.specs.Files.{IsOpened}
use Rattle.zf_store.{proofs.Kept.{blank_behind}, proofs.Opened.{enough_bits, opened}}
use Rattle.zf_store.proofs.store.Store.of_whole_file.Goals as goal

pub with_words-requires : goal.with_words-requires
with_words-requires g c =
    let bits = c.in_ok-words.ensures.bits in let enough = enough_bits _ _ c.requires.header c.requires.whole in (lit< tt, search (rules, blank_behind))

pub returns : goal.returns
returns g c =
    let small = All-from_get_or (λ v. v < 256) c.args.file.now 0 (λ i within. (c.type_inv.file i).fits) in
    let is = opened c.args.file.now c.args.h.now c.requires.header c.requires.whole small _ _ c.in_ok-words.ensures.bits in
    IfOk-weaker c.with_words.result _ (IsOpened c.args.file.now c.args.h.now) (λ s same. rw same is) c.with_words.ensures
