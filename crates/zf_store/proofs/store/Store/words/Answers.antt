use Rattle.std.proofs.Common.{subst, rules}
use Rattle.zf_store.{specs.Stored.{IsStore}, proofs.Kept.{store_whole, words_are}}
use Rattle.zf_store.proofs.store.Store.words.Goals as goal

pub returns : goal.returns
returns g c =
    let whole = subst (IsStore g.T.Lane.width g.row.D) c.self.view_is (store_whole _ _ _ _ _ _ c.self.invariant) in
    let bits = words_are _ _ _ _ _ _ c.self.invariant in search rules
