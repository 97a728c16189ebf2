use Rattle.std.proofs.Common.{◌≡◌, sym, ap, subst, ◌∙◌, ◌+◌, ◌^◌, ◌<◌, pos, map, length, take, drop, arith}
use Rattle.std.proofs.lemmas.List.{length-set, length-take-le}
use Rattle.std.proofs.Common.{length-drop}
use Rattle.zf_base.proofs.Values.{number_at}
use Rattle.zf_spec.specs.Grid.{coordinates}
use Rattle.zf_cached.specs.Windows.{mapped}
use Rattle.zf_window.specs.Places.{WalkingIn, IsThere}
use Rattle.zf_part.proofs.Cutting.{value_is, there_more, get_part}
use Rattle.zf_part.proofs.window.cut.Goals as goal

pub loop-i-preserved : goal.loop-i-preserved
loop-i-preserved g c =
    let value = g.T.Lane.value in
    let r = c.args.reading.now in
    let h = r.header in
    let w = c.args.w.now in
    let i = c.loop-i.i in
    let b = c.step-b.result.0 in
    let place = c.step-b.result.1 in
    let size = 4 ^ length h.shape in
    let lines = c.load.new.lines in
    let begin = c.in_ok-at.at in
    let block = take size (drop begin lines) in
    let found = c.index-lines-at.result in
    let at : IsThere h.shape w i b place = subst (λ (x : WalkingIn). IsThere x.shape x.window x.next b place) c.loop-i.invariant.walk c.step-b.ensures.at in
    let long : length block ≡ size = length-take-le size (drop begin lines) (omega (arith, length-drop begin lines, c.in_ok-at.ensures.within)) in
    let within : place < length block = omega (arith, at.place_in_block, long) in
    let room : i < length c.loop-i.out = omega (arith, c.loop-i-test.true, c.loop-i.invariant.count) in
    let there = c.index-lines-at.is ∙ sym (get_part size begin place lines found at.place_in_block) in
    record {
      lines = c.in_ok-at.ensures.lines;
      walk = c.step-b.ensures.next ∙ ap (λ (x : WalkingIn). record x { next = x.next + 1 }) c.loop-i.invariant.walk;
      count = length-set c.loop-i.out i _ ∙ c.loop-i.invariant.count;
      done = λ right said parsed.
          there_more value h w said c.loop-i.out i found room (c.loop-i.invariant.done right said parsed)
          (number_at value block place found (pos 0) within there
          ∙ value_is r.bytes h b place (mapped w (coordinates w.size i)) (map value block) said parsed at (c.in_ok-at.ensures.block right));
    }
