use Rattle.std.proofs.Common.{ap, get_or, lit≤, rules}
use Rattle.zf_array.proofs.Coded.{coded_empty}
use Rattle.zf_cached.specs.Acts.{Act}
use Rattle.zf_run.proofs.Lending.{lent_ready, lent}
use Rattle.zf_run.proofs.views.flush_view.Goals as goal

pub bind-requires : goal.bind-requires
bind-requires g c = (lit≤ tt, (lit≤ tt, coded_empty c.args.a.now c.requires.parts.is_coded))

pub flush-requires : goal.flush-requires
flush-requires g c = search (rules, lent_ready)

pub returns : goal.returns
returns g c =
    let back = c.flush.new.back in let does = c.flush.ensures.does in
    let taken = lent _ g.T.Lane.width g.row.D _ _ c.args.i _ c.requires.parts c.requires.view (ap (get_or _ c.args.i) c.index-views-i.is)
    c.a-1.given.0 c.flush.new.self Act.flush c.bind.result.array back.array c.bind.ensures.array (search rules)
    does.step.kept (record { is_coded = back.is_coded; step = does.step.state; others = does.others; kept = does.same; whole = does.whole; fits = does.step.fits }) tt in search rules
