use Rattle.std.proofs.Common.{◌∙◌, map}
use Rattle.std.proofs.lemmas.List.{length-map}
use Rattle.zf_part.proofs.Cutting.{window_is}
use Rattle.zf_part.proofs.window.look.Goals as goal

pub returns : goal.returns
returns g c =
    window_is c.args.reading.now c.args.w.now (map g.T.Lane.value c.cut.new.out) c.cut.result
    (length-map c.cut.new.out g.T.Lane.value ∙ c.cut.ensures.count ∙ c.requires.size) c.cut.ensures.window
