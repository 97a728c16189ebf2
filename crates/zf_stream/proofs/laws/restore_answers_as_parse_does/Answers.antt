use Rattle.std.{proofs.Common.{◌≡◌, ◌↔◌, refl, Result, Ok, Err}, specs.Prelude.{IsOk}}
use Rattle.zf_parse.{specs.declared.fault.StreamFault.{StreamFault}, specs.Parsing.{Said, parse}}
use Rattle.zf_parse.proofs.Steps.{without_said}
use Rattle.zf_stream.proofs.laws.restore_answers_as_parse_does.Goals as goal

ok_same : (answer : Result Said StreamFault) → (without_said answer ≡ Ok tt) ↔ IsOk answer
ok_same (Ok said) = (λ e. refl, λ e. refl)
ok_same (Err f) = (λ e. absurd (cc), λ e. absurd (cc))

err_same : (answer : Result Said StreamFault) (e : StreamFault) → (without_said answer ≡ Err e) ↔ (answer ≡ Err e)
err_same (Ok said) e = (λ is. absurd (cc), λ is. absurd (cc))
err_same (Err f) e = (λ is. cc, λ is. cc)

pub returns-clause-ok : goal.returns-clause-ok
returns-clause-ok c bytes = ok_same (parse bytes)

pub returns-clause-err : goal.returns-clause-err
returns-clause-err c bytes e = err_same (parse bytes) e
