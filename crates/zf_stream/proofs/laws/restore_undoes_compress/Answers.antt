use Rattle.zf_parse.proofs.StreamsBack.{answer-stream_text, text-reversible_text, text-rate_text, text-prec_text}
use Rattle.zf_stream.proofs.laws.restore_undoes_compress.Goals as goal

pub returns-clause-answer : goal.returns-clause-answer
returns-clause-answer c h bytes is_header = answer-stream_text h bytes is_header

pub returns-clause-reversible : goal.returns-clause-reversible
returns-clause-reversible c h bytes is_header mode long small = text-reversible_text h bytes is_header mode long small

pub returns-clause-rate : goal.returns-clause-rate
returns-clause-rate c h bytes budget is_header mode = text-rate_text h bytes is_header budget mode

pub returns-clause-precision : goal.returns-clause-precision
returns-clause-precision c h bytes p is_header mode = text-prec_text h bytes is_header p mode
