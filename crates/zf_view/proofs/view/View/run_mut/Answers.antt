use Rattle.std.proofs.Common.{refl, ap, sym, ◌∙◌, map, length, rules}
use Rattle.std.proofs.lemmas.List.{length-map}
use Rattle.zf_base.{specs.Positions.{used_axes}, specs.Places.{block_number, place_of}}
use Rattle.zf_lines.{specs.Rows.{over}, proofs.Sizes.{length-over}}
use Rattle.zf_window.{specs.Positions.{position_at}}
use Rattle.zf_view.specs.ViewLoans.{view_of}
use Rattle.zf_view.proofs.Runs.{beside, run_within, run_is, run_ends, run_state, header_run}
use Rattle.zf_view.proofs.view.View.run_mut.Goals as goal

pub part_mut-requires : goal.part_mut-requires
part_mut-requires g c = search (rules, run_within)

pub returns : goal.returns
returns g c =
    let now = c.args.self.now in
    let a = now.array.now in
    let w = now.window in
    let p = c.args.p in
    let lies = c.requires.at.lies in
    let at = c.requires.at.position in
    let shape_is = c.shape.ensures.value in
    let first = c.map-first.ensures.value in
    let eb = c.place_in-b.ensures.block ∙ (λ i. block_number (shape_is i) (used_axes (length (shape_is i)) (first i))) in
    let ek = c.place_in-b.ensures.place ∙ (λ i. place_of (used_axes (length (shape_is i)) (first i))) in
    let en = c.run_length-len.ensures in
    let value = g.T.Lane.value in
    let r = c.part_mut.result.now in
    let long = length-map r value ∙ c.part_mut.ensures.size in (
      (refl, λ x. ap (view_of now) (run_ends a w p lies at c.requires.step c.touch_mut.new.self c.place_in-b.result.0 c.place_in-b.result.1 c.run_length-len.result eb ek en c.touch_mut.ensures.header c.touch_mut.ensures.state (map value r) long c.part_mut.ensures.value (map value (over r x)) (length-map (over r x) value ∙ length-over r x ∙ c.part_mut.ensures.size))),
      record {
        writes_back = tt;
        shows = search (rules, beside, run_is);
        state = λ vs size. run_state a w p lies at c.requires.step c.touch_mut.new.self c.place_in-b.result.0 c.place_in-b.result.1 c.run_length-len.result eb ek en c.touch_mut.ensures.header c.touch_mut.ensures.state (map value r) long c.part_mut.ensures.value vs (size ∙ sym en) (c.part_mut.ensures.state vs);
        header = header_run a (position_at w p);
      },
    )
