use Rattle.std.proofs.Common.{rules}
use Rattle.zfpi_c.proofs.Narrowed.{says_int32}
use Rattle.zfpi_c.proofs.calls.compressed.Goals as goal

pub compress_narrow_into-requires-clause-int32 : goal.compress_narrow_into-requires-clause-int32
compress_narrow_into-requires-clause-int32 c = search (rules, says_int32)
