use Rattle.zf_dev.proofs.whole.take_all.Goals as goal

pub returns-clause-ok : goal.returns-clause-ok
returns-clause-ok g c = rw (← c.read_ahead.ensures.contents_stay) c.take_pieces.ensures.ok

pub returns-clause-long : goal.returns-clause-long
returns-clause-long g c = rw (← c.read_ahead.ensures.contents_stay) c.take_pieces.ensures.long

pub returns-clause-taken : goal.returns-clause-taken
returns-clause-taken g c = rw (← c.read_ahead.ensures.contents_stay) c.take_pieces.ensures.taken
