use Rattle.zf_store.proofs.Kept.{store_whole}
use Rattle.zf_store.proofs.store.Store.header.Goals as goal

pub returns-clause-whole : goal.returns-clause-whole
returns-clause-whole g c = rw c.self.view_is at (store_whole _ _ _ _ _ _ c.self.invariant)
