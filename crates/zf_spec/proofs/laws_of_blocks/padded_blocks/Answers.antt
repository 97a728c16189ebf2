use Rattle.zf_spec.proofs.Padding.{length-pad, existing_values-pad, pad_fits, pad_same}
use Rattle.zf_spec.proofs.laws_of_blocks.padded_blocks.Goals as goal

pub returns : goal.returns
returns c = record { whole = length-pad; kept = existing_values-pad; fit = pad_fits; only = pad_same }
