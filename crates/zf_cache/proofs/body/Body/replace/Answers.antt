use Rattle.std.proofs.Common.{refl}
use Rattle.zf_cache.proofs.Sound.{whole_of}
use Rattle.zf_cache.proofs.body.Body.replace.Goals as goal

pub returns-clause-whole : goal.returns-clause-whole
returns-clause-whole g c = λ len whole. whole_of c.args.other _ len whole refl refl
