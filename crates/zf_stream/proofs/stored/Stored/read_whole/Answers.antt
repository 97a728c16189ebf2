use Rattle.std.proofs.Common.{◌++◌, map, take, sym, ap, ◌∙◌}
use Rattle.std.proofs.lemmas.List.{map-append, length-map}
use Rattle.zf_stream.proofs.Places.{length-behind, put_behind}
use Rattle.zf_stream.proofs.stored.Stored.read_whole.Goals as goal

pub returns-clause-some : goal.returns-clause-some
returns-clause-some g c =
    let value = g.T.Lane.value in
    let held = c.self.inside.held in
    let count = c.args.size in
    let places = c.make_ready.new.places in
    let lent = c.deref_mut.result.now in
    let same = c.deref_mut.ensures.value in
    let ready = c.make_ready.ensures.ready in
    let block = c.read_code.new.block in
    let long = c.read_code.auto.block ∙ length-behind held count places.len places.items lent same (sym places.ok.0) ready in
    record {
      block = map value block;
      code = c.in_ok-read_code.ensures.some;
      long = length-map block value ∙ long ∙ c.requires.size;
      behind =
          ap (map value) (put_behind held count places.len places.items lent block same (sym places.ok.0) ready long)
          ∙ map-append value (take held places.items) block
          ∙ ap (λ vs. map value vs ++ map value block) (c.make_ready.ensures.held ∙ ap (λ h. h.items) c.self.view_is);
    }
