use Rattle.std.proofs.Common.{rules}
use Rattle.zf_dev.proofs.Held.{held_none}
use Rattle.zf_dev.proofs.buffer.Buffer.is_empty.Goals as goal

pub returns : goal.returns
returns c = search (rules, held_none)
