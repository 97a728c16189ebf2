use Rattle.std.proofs.Common.{rules, ◌≡◌, ℕ, ◌+◌, ◌-◌, ◌≤◌, Bool, false, List, ◌++◌, replicate, ◌∙◌}
use Rattle.std.proofs.lemmas.List.{append_assoc, replicate-append-replicate}
use Rattle.zf_bits.specs.Reader.{rest}
use Rattle.zf_planes.specs.Lanes.{gathered}
use Rattle.zf_planes.proofs.Lanes.{planes_of-words}
use Rattle.zf_planes.proofs.PlanesRead.{whole_is}
use Rattle.zf_planes.proofs.four_reading.read_four.Goals as goal

-- ---- the bits are there

-- the planes that were read, and zeros down to the last one
with_zeros : (prefix planes whole : List (List Bool)) (n prec width : ℕ) → n ≤ prec → prec ≤ width → planes ≡ prefix ++ replicate (prec - n) (replicate 4 false) → planes ≡ whole
    → prefix ++ replicate (width - n) (replicate 4 false) ≡ whole ++ replicate (width - prec) (replicate 4 false)
with_zeros prefix planes whole n prec width within room is same = search (rules, replicate-append-replicate, append_assoc)

pub returns-clause-digits : goal.returns-clause-digits
returns-clause-digits c =
    let read = c.in_ok-read.read.digits in
    let whole = (whole_is c.args.budget c.args.prec 4 (rest c.args.reader.now)).1 in
    planes_of-words c.args.width c.digits_of.result ∙ c.digits_of.ensures.planes
    ∙ with_zeros (gathered read.words read.done read.lanes read.held) _ _ (read.done + read.held) c.args.prec c.args.width c.in_ok-read.ensures.read.within c.requires.planes c.in_ok-read.ensures.read.digits whole
