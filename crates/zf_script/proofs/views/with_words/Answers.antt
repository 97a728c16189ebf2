use Rattle.std.proofs.Common.{arith, rules}
use Rattle.zf_script.proofs.Lines.{pget_command, no_pget, no_pwords}
use Rattle.zf_script.proofs.views.with_words.Goals as goal

pub returns-in_err-axes_in-in-Get-clause-none : goal.returns-in_err-axes_in-in-Get-clause-none
returns-in_err-axes_in-in-Get-clause-none c =
    rw (c.from_residual.ensures, c.in-Get.is) (no_pget c.args.dims c.args.view c.args.rest.now c.in_err-axes_in-in-Get.ensures.none)

pub returns-in_ok-axes_in-in-Get-clause-command : goal.returns-in_ok-axes_in-in-Get-clause-command
returns-in_ok-axes_in-in-Get-clause-command c =
    rw c.in-Get.is (pget_command c.args.dims c.args.view (omega arith) c.args.rest.now c.in_ok-axes_in-in-Get.field-0 c.in_ok-axes_in-in-Get.ensures.axes)

pub returns-in_default-clause-none : goal.returns-in_default-clause-none
returns-in_default-clause-none c = search (rules, no_pwords)
