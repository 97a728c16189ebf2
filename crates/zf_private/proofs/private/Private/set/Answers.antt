use Rattle.std.proofs.Common.{◌∙◌, lit<}
use Rattle.zf_cached.{specs.Acts.{Act}, specs.Views.{acted}}
use Rattle.zf_private.specs.Standing.{Held, state}
use Rattle.zf_private.proofs.Calls.{backed_at, values_whole, put-changed, exists_there, does_at}
use Rattle.zf_private.proofs.private.Private.set.Goals as goal

pub set-requires : goal.set-requires
set-requires g c =
    let e = c.place-b.ensures in (lit< tt, backed_at c.self.view_is c.self.invariant c.requires.sits e.block e.place e.at)

pub returns : goal.returns
unfolding acted
returns g c =
    let o = c.self.inside in
    let v : Held g.row.T.Denot = record { cache = o.cache; shape = o.shape; first = o.first; count = o.count } in
    let f = g.B.Reading.format c.args.back.now in let k = g.B.Reading.codes c.args.back.now in let value = g.T.Lane.value in let s = state value v f k in
    let b = c.place-b.result.0 in let place = c.place-b.result.1 in let e = c.place-b.ensures in let sits = c.requires.sits in
    let t = c.set.ensures.step in let x = value c.args.v in
    let exists = exists_there value g.row.D v c.args.self.now c.self.view_is c.self.invariant f k c.args.p b place e.block e.place e.at sits.places sits.owned in
    let step = t.state ∙ put-changed value f s b place x exists (values_whole value v.cache f k b) in
    record { does = does_at c.self.view_is c.self.invariant sits e.block e.place (λ m n. Act.set m n x) step t.fits t.format t.kept sits.owned }

pub invariant_of-self : goal.invariant_of-self
invariant_of-self g c = (returns g c).does.whole
