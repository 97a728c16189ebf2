use Rattle.zf_parse.specs.Parsing.{restore_answer, restored_text}
use Rattle.zfpi_c.specs.Statuses.{of_stream}
use Rattle.zfpi_c.proofs.Ends.{told_ok, told_err}
use Rattle.zfpi_c.proofs.calls.restore.Goals as goal

pub returns-clause-ok : goal.returns-clause-ok
returns-clause-ok c =
    told_ok of_stream restore_answer restored_text c.args.stream.now c.args.out.now c.restore_into.new.out c.tell.result c.in_ok-count.count c.tell.new.len c.in_ok-count.ensures.ok c.tell.ensures.told c.tell.ensures.ok

pub returns-clause-err : goal.returns-clause-err
returns-clause-err c =
    told_err of_stream restore_answer restored_text c.args.stream.now c.args.out.now c.restore_into.new.out c.tell.result c.args.len.now c.in_ok-count.count c.tell.new.len c.in_ok-count.ensures.ok c.tell.ensures.told c.tell.ensures.err
