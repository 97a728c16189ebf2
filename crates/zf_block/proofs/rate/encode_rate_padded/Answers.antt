use Rattle.std.proofs.Common.{refl, map, ◌∙◌}
use Rattle.std.proofs.lemmas.List.{length-map}
use Rattle.zf_spec.{specs.Codes.{rate}, proofs.Raster.{length-fours}}
use Rattle.zf_bits.proofs.Appending.{Appends-same}
use Rattle.zf_block.proofs.Sizes.{pad-padded}
use Rattle.zf_block.proofs.rate.encode_rate_padded.Goals as goal

pub returns : goal.returns
unfolding rate
returns g c =
    record { code = Appends-same c.encode.ensures (rw (length-fours c.args.d.count, pad-padded c.args.d.count (map g.T.Lane.value c.args.block.now) (length-map c.args.block.now g.T.Lane.value ∙ c.requires.block)) refl) }
