use Rattle.std.{proofs.Common.{◌∙◌}, proofs.Math.Seq.{take-add}, proofs.lemmas.List.{take_rest}}
use Rattle.zf_dev.{proofs.Appending.{Appends-append}, proofs.Pieces.{end_in_range}}
use Rattle.zf_dev.proofs.sink.write_all.Goals as goal

pub loop-written-preserved : goal.loop-written-preserved
loop-written-preserved g c =
    let bytes = c.args.bytes.now in
    let at = c.loop-written.written in
    let count = c.in_ok-written.field-0 in
    record {
      in_range = end_in_range bytes at count c.loop-written.invariant.in_range c.in_ok-written.ensures.bound;
      prefix = rw (take-add at count bytes, ← take_rest bytes at) (Appends-append _ _ _ _ _ c.loop-written.invariant.prefix c.in_ok-written.ensures.appended);
      same = c.in_ok-written.ensures.unchanged ∙ c.loop-written.invariant.same;
      same_sink = c.in_ok-written.ensures.kept ∙ c.loop-written.invariant.same_sink;
    }
