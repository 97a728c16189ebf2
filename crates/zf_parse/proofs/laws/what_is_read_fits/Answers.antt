use Rattle.zf_parse.{proofs.Fits.{code_fits}, proofs.Parts.{said_fit, restored_fit}}
use Rattle.zf_parse.proofs.laws.what_is_read_fits.Goals as goal

pub returns : goal.returns
returns c = record { code = code_fits; stream = said_fit; restored = restored_fit }
