use Rattle.std.{proofs.Common.{arith}, proofs.lemmas.List.{length-map}}
use Rattle.zf_coef.proofs.Halves.{zeros_put}
use Rattle.zf_coef.proofs.planes.put_none.Goals as goal

pub returns : goal.returns
returns g c =
    zeros_put 64 _ _ _ _ _ (omega (arith, length-map c.put_words.new.planes g.P.Plane.words))
    c.put_words.ensures.words c.put_words.ensures.others
