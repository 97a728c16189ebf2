use Rattle.std.{proofs.Common.{ap, ◌∙◌, [], length}, proofs.lemmas.List.{map-id, get_or_read}}
use Rattle.zf_array_tests.specs.EvenValues.{evens_format}
use Rattle.zf_base.specs.Formats.{existing_of, meant}
use Rattle.zf_array_tests.proofs.evens.EvensReadingI32.load.Goals as goal

pub returns-clause-value : goal.returns-clause-value
unfolding meant
returns-clause-value c =
    ap (existing_of (evens_format (length c.args.self.now.blocks.items)) c.args.b)
    (map-id c.copy_from_slice.new.self ∙ c.copy_from_slice.ensures.after ∙ get_or_read c.args.self.now.blocks.items c.args.b c.index.result.now c.requires.block c.index.ensures [])
