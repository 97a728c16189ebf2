use Rattle.std.proofs.Common.{ℕ, List}
use Rattle.zf_base.specs.declared.lane.Ty.{Ty}
use Rattle.zf_header.{specs.declared.header.Mode.{Mode}, specs.HeaderBits.{IsRate}}
use Rattle.zf_index.{specs.declared.fault.OpenFault.{OpenFault}, specs.Opening.{AnyMode, LacksHeader}}
use Rattle.zf_index.specs.declared.fault.OpenFault.TheVariants as open_fault
use Rattle.zf_index.proofs.opening.header_of_array.Goals as goal

-- bytes with no header in any mode have none in some
in_some_mode : (Does : Mode → Type 0) (ty : Ty) (d : ℕ) (bytes : List ℕ) (e : OpenFault) → LacksHeader AnyMode ty d bytes e → LacksHeader Does ty d bytes e
in_some_mode Does ty d bytes (open_fault.Mode found) why = absurd (why.2 tt)
in_some_mode Does ty d bytes (open_fault.Codes f) why = absurd why
in_some_mode Does ty d bytes e why = why

pub returns-in-Err-clause-fault : goal.returns-in-Err-clause-fault
returns-in-Err-clause-fault g c = in_some_mode IsRate g.T.Lane.TY c.args.dims c.args.file.now c.in-Err.fault c.in-Err.ensures.fault
