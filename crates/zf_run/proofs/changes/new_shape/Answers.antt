use Rattle.std.proofs.Common.{rules, ap, ◌∙◌}
use Rattle.zf_header.specs.declared.header.Mode.TheVariants.{Rate}
use Rattle.zf_run.proofs.Resizing.{not_as_many, no_room, is_new, has_room_is, has_no_room}
use Rattle.zf_run.proofs.changes.new_shape.Goals as goal

pub returns-then-count-dims-clause-none : goal.returns-then-count-dims-clause-none
returns-then-count-dims-clause-none g c = search (rules, not_as_many)

pub returns-then-rate_bytes-gt-MAX_FILE-clause-none : goal.returns-then-rate_bytes-gt-MAX_FILE-clause-none
returns-then-rate_bytes-gt-MAX_FILE-clause-none g c = search (rules, no_room, has_no_room)

pub returns-clause-some : goal.returns-clause-some
returns-clause-some g c = search (rules, is_new, has_room_is)

pub returns-clause-rate : goal.returns-clause-rate
returns-clause-rate g c = c.bits.ensures.mode ∙ ap Rate c.bits.ensures.value
