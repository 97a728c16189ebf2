use Rattle.std.proofs.Common.{refl, rules}
use Rattle.zf_cache.proofs.Sound.{whole_emptied}
use Rattle.zf_cache.proofs.body.Body.discard.Goals as goal

pub returns-clause-whole : goal.returns-clause-whole
returns-clause-whole g c = λ len whole. whole_emptied c.args.self.now _ len whole refl (search rules)
