use Rattle.std.proofs.Common.{sym, ap, subst, ◌∙◌, ◌<◌, lit<}
use Rattle.zf_cache.specs.Kept.{HasRow}
use Rattle.zf_cached.{specs.Acts.{Act}, specs.Views.{acted}}
use Rattle.zf_private.specs.Standing.{Held, state}
use Rattle.zf_private.proofs.Calls.{backed_at, values_whole, has_blocks, place_below, exists_there, added, touched_whole, does_at}
use Rattle.zf_private.proofs.private.Private.add.Goals as goal

pub touch_mut-requires : goal.touch_mut-requires
touch_mut-requires g c =
    let e = c.place-b.ensures in (lit< tt, (backed_at c.self.view_is c.self.invariant c.requires.sits e.block e.place e.at).0)

pub returns : goal.returns
unfolding acted
returns g c =
    let o = c.self.inside in
    let v : Held g.row.T.Denot = record { cache = o.cache; shape = o.shape; first = o.first; count = o.count } in
    let f = g.B.Reading.format c.args.back.now in let k = g.B.Reading.codes c.args.back.now in let value = g.T.Lane.value in let w = g.T.Lane.width in let d = g.row.D in
    let now = c.args.self.now in let is = c.self.view_is in let whole = c.self.invariant in
    let p = c.args.p in let b = c.place-b.result.0 in let place = c.place-b.result.1 in let e = c.place-b.ensures in let sits = c.requires.sits in
    let t = c.touch_mut.ensures.step in let h = g.B.Reading.format c.touch_mut.new.back in let j = g.B.Reading.codes c.touch_mut.new.back in let s = state value v f k in
    let len = ap (λ q. q.block_len) t.format ∙ (has_blocks value d v now is whole f k sits.blocks).0 in
    let size = subst (λ n. HasRow c.touch_mut.new.self b n) (sym len) c.dirty_value_mut-value.ensures.size in
    let within = subst (λ n. place < n) (sym len) (place_below value d v now is whole f k p b place e.block e.place e.at) in
    let exists = exists_there value d v now is whole f k p b place e.block e.place e.at sits.places sits.owned in
    let told = added value w f h k j s c.touch_mut.new.self b place c.dirty_value_mut-value.result.now c.add.result c.args.v t.format t.state t.fits c.touch_mut.ensures.dirty size within exists
    c.dirty_value_mut-value.ensures.value c.add.ensures.value (touched_whole f s b (values_whole value v.cache f k b)) in
    record { does = does_at is whole sits e.block e.place (λ m n. Act.add m n (value c.args.v)) told.1 told.0 t.format t.kept sits.owned }

pub invariant_of-self : goal.invariant_of-self
invariant_of-self g c = (returns g c).does.whole
