use Rattle.zf_pad.proofs.Slabs.{block_of-slab}
use Rattle.zf_pad.proofs.laws_of_slabs.slabs_of_an_array.Goals as goal

pub returns-clause-block : goal.returns-clause-block
returns-clause-block c ns values first rows j slab lt = block_of-slab ns first rows slab j lt values
