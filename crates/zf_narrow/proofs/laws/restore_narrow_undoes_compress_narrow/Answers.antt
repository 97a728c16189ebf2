use Rattle.zf_narrow.proofs.StreamsBack.{answer-narrow_text, text-narrow_text}
use Rattle.zf_narrow.proofs.laws.restore_narrow_undoes_compress_narrow.Goals as goal

pub returns-clause-answer : goal.returns-clause-answer
returns-clause-answer c n h bytes is_header int32 = answer-narrow_text n h bytes is_header int32

pub returns-clause-reversible : goal.returns-clause-reversible
returns-clause-reversible c n h bytes is_header int32 mode long small = text-narrow_text n h bytes is_header int32 mode long small
