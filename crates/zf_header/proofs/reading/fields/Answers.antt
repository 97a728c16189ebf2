-- The first fault of the parts is that of the whole.
use Rattle.std.{proofs.Common.{rules, sym, subst, ◌∙◌}, proofs.lemmas.Result.{err_from_is_err_and}}
use Rattle.zf_spec.specs.Stream.{to_bits}
use Rattle.zf_header.{specs.HeaderBits.{IsMode}, proofs.Faults.{prefix_fault, size_fault, mode_fault}}
use Rattle.zf_header.proofs.Modes.{header_in-mode}
use Rattle.zf_header.proofs.reading.fields.Goals as goal

pub returns-in_err-ty-clause-fault : goal.returns-in_err-ty-clause-fault
returns-in_err-ty-clause-fault c =
    let p = err_from_is_err_and c.from_residual.result c.from_residual.ensures.1 in
    rw (p.1, p.2) (prefix_fault c.args.bytes.now _ c.in_err-ty.ensures.fault)

pub returns-in_err-shape-clause-fault : goal.returns-in_err-shape-clause-fault
returns-in_err-shape-clause-fault c = search (rules, err_from_is_err_and, size_fault)

pub returns-in_err-mode-clause-fault : goal.returns-in_err-mode-clause-fault
returns-in_err-mode-clause-fault c = search (rules, err_from_is_err_and, mode_fault)

pub header_len-requires : goal.header_len-requires
header_len-requires c = subst IsMode (sym c.in_ok-mode.ensures.mode) (header_in-mode (to_bits c.args.bytes.now))

pub returns-clause-fault : goal.returns-clause-fault
returns-clause-fault c =
    c.in_ok-mode.ensures.fault ∙ mode_fault c.args.bytes.now c.in_ok-ty.ensures.fault c.in_ok-shape.ensures.fault
