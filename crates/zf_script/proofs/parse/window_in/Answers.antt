use Rattle.zf_script.proofs.Lines.{window_some, window_none}
use Rattle.zf_script.proofs.parse.window_in.Goals as goal

pub returns-in_err-steps-clause-none : goal.returns-in_err-steps-clause-none
returns-in_err-steps-clause-none c =
    rw c.from_residual-in_err-steps.ensures (window_none c.args.dims c.args.words.now c.in_ok-first.first.now c.in_ok-first.rest.now c.in_ok-second.second.now c.in_ok-second.third.now c.in_ok-first.ensures.parts c.in_ok-second.ensures.parts c.in_err-steps.ensures.none)

pub returns-clause-window : goal.returns-clause-window
returns-clause-window c =
    window_some c.args.dims c.args.words.now c.in_ok-first.first.now c.in_ok-first.rest.now c.in_ok-second.second.now c.in_ok-second.third.now c.in_ok-origin.origin c.in_ok-sizes.sizes c.in_ok-steps.steps c.in_ok-first.ensures.parts c.in_ok-second.ensures.parts c.in_ok-origin.ensures.axes c.in_ok-sizes.ensures.axes c.in_ok-steps.ensures.axes
