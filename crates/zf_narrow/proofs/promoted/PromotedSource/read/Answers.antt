use Rattle.std.proofs.Common.{◌∙◌, subst}
use Rattle.std.proofs.lemmas.Result.{IfOk-weaker, on_err_weaker}
use Rattle.zf_dev.{specs.Source.{Takes}, proofs.Taking.{Takes-append}}
use Rattle.zf_narrow.{specs.Promotions.{exposed}, proofs.Stepping.{ends_at}, proofs.GivenNarrow.{gives_of}}
use Rattle.zf_narrow.proofs.promoted.PromotedSource.read.Goals as goal

pub returns-clause-taken : goal.returns-clause-taken
returns-clause-taken g c = IfOk-weaker c.read.result _ _ (λ k given. given.gone) c.read.ensures.given

pub returns-clause-gave : goal.returns-clause-gave
returns-clause-gave g c = IfOk-weaker c.read.result _ _ (λ k given. gives_of _ given.gave c.read.ensures.taken) c.read.ensures.given

pub returns-clause-untaken : goal.returns-clause-untaken
returns-clause-untaken g c = on_err_weaker c.read.result (λ given. given.gone) c.read.ensures.ungiven

pub returns-clause-ungiven : goal.returns-clause-ungiven
returns-clause-ungiven g c = on_err_weaker c.read.result (λ given. gives_of _ given.gave c.read.ensures.taken) c.read.ensures.ungiven

pub returns-clause-end : goal.returns-clause-end
returns-clause-end g c =
    let taken = IfOk-weaker c.read.result _ _ (λ k given. given.gone) c.read.ensures.given in
    ends_at c.read.result (exposed c.args.self.now.promotion (g.S.Source.contents c.args.self.now.src.src.now)) (exposed c.read.new.self (g.S.Source.contents c.read.new.src.src.now)) c.read.new.buf taken (rw (← c.read.auto.buf) at c.read.ensures.bound) c.read.ensures.end

pub invariant_of-self : goal.invariant_of-self
invariant_of-self g c =
    let self = c.args.self.now in
    let logs = c.read.ensures.taken in
    record {
      same_type = logs.same_type ∙ self.same_type;
      at_end = c.read.ensures.at_end;
      known = c.read.ensures.known;
      read = subst (Takes g.K.Begun.start (g.S.Source.contents c.read.new.src.src.now)) logs.logged
          (Takes-append g.K.Begun.start (g.S.Source.contents self.src.src.now) (g.S.Source.contents c.read.new.src.src.now) _ logs.bytes self.read logs.taken);
    }
