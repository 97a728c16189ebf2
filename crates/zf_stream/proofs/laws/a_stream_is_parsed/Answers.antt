use Rattle.zf_parse.proofs.StreamsBack.{header_of-stream_of, said-reversible, said-rate, said-prec}
use Rattle.zf_stream.proofs.laws.a_stream_is_parsed.Goals as goal

pub returns-clause-header : goal.returns-clause-header
returns-clause-header c h values is_header = header_of-stream_of h values is_header

pub returns-clause-reversible : goal.returns-clause-reversible
returns-clause-reversible c h values is_header mode long fits = (said-reversible h values is_header mode long fits).1

pub returns-clause-rate : goal.returns-clause-rate
returns-clause-rate c h values budget is_header mode = (said-rate h values is_header budget mode).1

pub returns-clause-precision : goal.returns-clause-precision
returns-clause-precision c h values p is_header mode = (said-prec h values is_header p mode).1
