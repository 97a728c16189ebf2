use Rattle.std.{proofs.Common.{◌+◌, sym}, proofs.lemmas.List.{take_rest}}
use Rattle.zf_cached.proofs.Cutting.{cut_at-nowhere, cut_at-place}
use Rattle.zf_script.proofs.words.cut.Goals as goal

pub returns-in_err-end-clause-none : goal.returns-in_err-end-clause-none
returns-in_err-end-clause-none c =
    rw c.from_residual.ensures (cut_at-nowhere c.args.byte c.args.bytes.now (sym c.in_err-end.ensures))

pub returns-clause-parts : goal.returns-clause-parts
returns-clause-parts c =
    rw (take_rest c.args.bytes.now (c.in_ok-end.end + 1)) (cut_at-place c.args.byte c.args.bytes.now c.in_ok-end.end (sym c.in_ok-end.ensures))
