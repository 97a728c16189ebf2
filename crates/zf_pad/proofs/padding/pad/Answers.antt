use Rattle.std.{proofs.Common.{rules, arith}, proofs.lemmas.List.{length-map, map-set}}
use Rattle.zf_base.proofs.Values.{number_at}
use Rattle.zf_pad.proofs.Sizes.{used_sizes}
use Rattle.zf_pad.proofs.Sources.{padded_more, value_of_source, source_in_block}
use Rattle.zf_pad.proofs.padding.pad.Goals as goal

pub offset_bounds-block-source_place : goal.offset_bounds-block-source_place
offset_bounds-block-source_place g c =
    let inside = source_in_block c.args.d c.args.e.now c.loop-place.place c.requires.four_at_most c.requires.extent in
    search rules

pub bounds-block-source_place : goal.bounds-block-source_place
bounds-block-source_place g c =
    let inside = source_in_block c.args.d c.args.e.now c.loop-place.place c.requires.four_at_most c.requires.extent in
    omega (arith, inside)

pub loop-place-preserved : goal.loop-place-preserved
loop-place-preserved g c = search (rules, number_at, bounds-block-source_place, value_of_source, used_sizes, map-set, padded_more, length-map)
