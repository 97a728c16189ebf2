use Rattle.std.proofs.Common.{rules, refl, map, ◌∙◌}
use Rattle.std.proofs.lemmas.List.{length-map}
use Rattle.zf_spec.{specs.Codes.{prec}, proofs.Raster.{length-fours}}
use Rattle.zf_bits.proofs.Appending.{Appends-same}
use Rattle.zf_block.{proofs.AfterReserve.{after_reserve}, proofs.Sizes.{pad-padded, room_of}, proofs.Widths.{width_bounds}}
use Rattle.zf_block.proofs.precision.encode_prec_padded.Goals as goal

pub overflow_mul-size : goal.overflow_mul-size
overflow_mul-size g c = search (rules, room_of, width_bounds)

pub reserve-requires : goal.reserve-requires
reserve-requires g c = search (rules, room_of, width_bounds)

pub returns-clause-ok : goal.returns-clause-ok
unfolding prec
returns-clause-ok g c =
    let long = length-map c.args.block.now g.T.Lane.value ∙ c.requires.block in
    after_reserve c.in_ok-reserve.ensures.bits c.in_ok-reserve.ensures.no_less
    (Appends-same c.encode.ensures (rw (length-fours c.args.d.count, pad-padded c.args.d.count (map g.T.Lane.value c.args.block.now) long, g.met.T.Lane.bits_of_width) refl))
