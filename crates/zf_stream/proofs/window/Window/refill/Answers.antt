use Rattle.std.{proofs.Common.{rules, sym, ◌∙◌, arith}, proofs.lemmas.Result.{err_from_is_err_and}}
use Rattle.zf_dev.proofs.Devices.{Reads-none, Reads-more}
use Rattle.zf_stream.proofs.Drawing.{DrawsSome-append}
use Rattle.zf_stream.{proofs.OnErrors.{on_err}, proofs.Windows.{Refills-next, Refills-moved}}
use Rattle.zf_stream.proofs.Failing.{ReadsOnly-ok}
use Rattle.zf_stream.proofs.window.Window.refill.Goals as goal

pub loop-self-init : goal.loop-self-init
loop-self-init g c = record {
  refills = Refills-moved c.args.src.now c.args.self.now c.move_down.new.self c.move_down.ensures.bits c.move_down.ensures.room c.move_down.ensures.place;
  place = omega (arith, c.move_down.ensures.place);
  ended = λ is. c.requires.ended (sym c.move_down.ensures.ended ∙ is);
  source = Reads-none _;
}

pub loop-self-preserved : goal.loop-self-preserved
loop-self-preserved g c = record {
  refills = Refills-next c.loop-self.invariant.refills c.in_ok-append.ensures.reaches.ok;
  place = omega (arith, c.in_ok-append.ensures.place, c.loop-self.invariant.place);
  ended = c.in_ok-append.ensures.reaches.ended;
  source = Reads-more c.loop-self.invariant.source c.append.ensures.reaches.source.device;
}

pub returns-in_err-append-clause-reaches : goal.returns-in_err-append-clause-reaches
returns-in_err-append-clause-reaches g c = record {
  ok = search (rules, err_from_is_err_and);
  ended = search (rules, err_from_is_err_and);
  drawn = on_err c.from_residual.result _ (DrawsSome-append _ c.loop-self.invariant.refills.goes.drawn c.in_err-append.ensures.reaches.drawn);
  source = search (rules, err_from_is_err_and);
}

pub returns-else-not-self-clause-reaches : goal.returns-else-not-self-clause-reaches
returns-else-not-self-clause-reaches g c = record { ok = c.loop-self.invariant.refills; ended = c.loop-self.invariant.ended; drawn = tt; source = ReadsOnly-ok tt c.loop-self.invariant.source }

pub returns-after-loop-self-clause-reaches : goal.returns-after-loop-self-clause-reaches
returns-after-loop-self-clause-reaches g c = record { ok = c.loop-self.invariant.refills; ended = c.loop-self.invariant.ended; drawn = tt; source = ReadsOnly-ok tt c.loop-self.invariant.source }
