use Rattle.zf_spec.proofs.LorenzoInverse.{unlorenzo-lorenzo, lorenzo-unlorenzo, length-lorenzo, lorenzo_fits}
use Rattle.zf_spec.proofs.laws_of_blocks.reversible_transform.Goals as goal

pub returns : goal.returns
returns c = record { back = unlorenzo-lorenzo; forth = lorenzo-unlorenzo; whole = length-lorenzo; fit = lorenzo_fits }
