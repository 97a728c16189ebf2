use Rattle.zf_axes.proofs.Writes.{MapsLine-written}
use Rattle.zf_axes.proofs.line.map_line.Goals as goal

pub returns : goal.returns
returns g c =
    MapsLine-written g.T.Lane.value _ _ _ c.args.block.now _ _ _ _ _ _ _ _ c.requires.step c.requires.inside
    c.index-block-start.is c.index-block-second.is c.index-block-third.is c.index-block-fourth.is c.apply-x.ensures
