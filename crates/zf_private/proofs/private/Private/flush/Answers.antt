use Rattle.std.proofs.Common.{ap, ◌∙◌, lit<}
use Rattle.zf_cached.{specs.Changes.{flush}, specs.Views.{acted}}
use Rattle.zf_private.{specs.Standing.{Held, state}, proofs.Calls.{has_blocks, fits_mine, does}}
use Rattle.zf_private.proofs.private.Private.flush.Goals as goal

pub flush-requires : goal.flush-requires
flush-requires g c =
    let f = g.B.Reading.format c.args.back.now in let k = g.B.Reading.codes c.args.back.now in let value = g.T.Lane.value in let d = g.row.D in
    let now = c.args.self.now in let is = c.self.view_is in let whole = c.self.invariant in
    (lit< tt, record { fits = fits_mine value d _ now is whole f k c.requires.sits.fits; blocks = has_blocks value d _ now is whole f k c.requires.sits.blocks })

pub returns-clause-does : goal.returns-clause-does
unfolding acted
returns-clause-does g c =
    let f = g.B.Reading.format c.args.back.now in let k = g.B.Reading.codes c.args.back.now in let value = g.T.Lane.value in
    let t = c.flush.ensures.step in let is = c.self.view_is in
    let step = t.state ∙ ap (λ (u : Held g.row.T.Denot). flush f (state value u f k)) is in
    does is c.self.invariant step t.fits t.format t.kept tt
