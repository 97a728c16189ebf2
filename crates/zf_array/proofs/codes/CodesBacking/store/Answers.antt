use Rattle.std.proofs.Common.{lit<}
use Rattle.zf_array.proofs.Coded.{coded_still, codes_stored, frame_stored}
use Rattle.zf_array.proofs.codes.CodesBacking.store.Goals as goal

pub store_code-requires : goal.store_code-requires
store_code-requires g c = (lit< tt, (c.args.self.now.is_coded, (c.requires.block, c.requires.whole)))

pub invariant_of-self : goal.invariant_of-self
invariant_of-self g c = record { is_coded = coded_still c.args.self.now.array.now c.store_code.new.self _ c.store_code.ensures.header c.store_code.ensures.state }

pub returns-clause-codes : goal.returns-clause-codes
returns-clause-codes g c = codes_stored c.args.self.now.array.now c.store_code.new.self _ c.store_code.ensures.state

pub returns-clause-kept : goal.returns-clause-kept
returns-clause-kept g c = frame_stored c.args.self.now.array.now c.store_code.new.self _ c.args.self.now.array.ghost_name c.store_code.ensures.header c.store_code.ensures.state
