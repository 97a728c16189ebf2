use Rattle.std.{proofs.lemmas.Grind.{common_steps}, proofs.Common.{◌∙◌, arith}}
use Rattle.std.proofs.lemmas.Result.{err_from_is_err_and}
use Rattle.zf_dev.proofs.Taking.{Takes-none}
use Rattle.zf_stream.{proofs.Endings.{stopped, at_end}, proofs.Slabwise.{Stops-none, rows_len-all}}
use Rattle.zf_stream.proofs.RawRows.{write_refused, more_refused, some_more}
use Rattle.zf_stream.proofs.PrefixesOfStreams.{Stops-behind, Compresses-behind, Compresses-read, Compresses-stop}
use Rattle.zf_stream.proofs.compressing.write_stream.Goals as goal

pub returns-in_err-write_whole_words-clause-ends : goal.returns-in_err-write_whole_words-clause-ends
returns-in_err-write_whole_words-clause-ends g c =
    let spills = rw c.requires.header at c.in_err-write_whole_words.ensures.err in
    let p = err_from_is_err_and c.from_residual.result c.from_residual.ensures.1 in
    rw (p.1, p.2)
    (stopped c.args.h.now _ (write_refused c.args.h.now _ _ _ c.in_err-write_whole_words.ensures.sink.fault)
    (Stops-none c.args.h.now _ _ c.dims-dims.ensures.shape.some_dimension (Takes-none _) spills))

pub returns-in_err-write_slabs-clause-ends : goal.returns-in_err-write_slabs-clause-ends
returns-in_err-write_slabs-clause-ends g c =
    let flows = rw c.requires.header at c.in_ok-write_whole_words.ensures.ok in
    let stops = Stops-behind _ flows c.in_err-write_slabs.ensures.err in
    let p = err_from_is_err_and c.from_residual-in_err-write_slabs.result c.from_residual-in_err-write_slabs.ensures.1 in
    rw (p.1, p.2) (stopped _ _ c.in_err-write_slabs.ensures.refused stops)

pub returns-in_err-read_end-clause-ends : goal.returns-in_err-read_end-clause-ends
returns-in_err-read_end-clause-ends g c =
    let flows = rw c.requires.header at c.in_ok-write_whole_words.ensures.ok in
    let done = Compresses-behind c.args.h.now _ flows c.in_ok-write_slabs.ensures.ok in
    let more = some_more _ _ _ c.in_err-read_end.ensures.err in
    let p = err_from_is_err_and c.from_residual-in_err-read_end.result c.from_residual-in_err-read_end.ensures.1 in
    let long = done.long ∙ rows_len-all c.args.h.now done.whole.some_axis in
    rw (p.1, p.2)
    (stopped c.args.h.now _ (more_refused c.args.h.now _ _ _ done.bytes done.taken long _ c.in_err-read_end.ensures.err)
    (Compresses-stop c.args.h.now _ more.0 done more.1 c.read_end.ensures.gave_some))

pub returns-clause-ends : goal.returns-clause-ends
returns-clause-ends g c =
    let written = c.write_whole_words-2.ensures in
    let end = c.in_ok-read_end.ensures in
    let flows = rw c.requires.header at c.in_ok-write_whole_words.ensures.ok in
    let read = Compresses-behind c.args.h.now _ flows c.in_ok-write_slabs.ensures.ok in
    let done = Compresses-read _ _ read end.ok.0 end.gave in
    let all = rw c.pad_to_word.ensures.bits.bits at written.ok in
    let part = rw c.pad_to_word.ensures.bits.bits at written.err in
    at_end c.args.h.now _ _ done end.ok.1 written.sink.fault all written.few part

pub pad_to_word-requires : goal.pad_to_word-requires
pad_to_word-requires g c = grind (arith, common_steps)
