use Rattle.std.{proofs.Common.{rules, ◌≡◌, true, false, map, arith}, proofs.lemmas.List.{length-map}}
use Rattle.zf_bits.specs.Reader.{rest}
use Rattle.zf_planes.{specs.Decoding.{ReadsTop, IsSpent, coded_bits}, proofs.PlanesRead.{whole_is}}
use Rattle.zf_planes.proofs.decoding.read_planes.Given.{Over}
use Rattle.zf_planes.proofs.decoding.read_planes.Goals.{After-skip, in-16+in_ok-left-in-16, in-64+in_ok-left-in-64, in_default+in_ok-left-in_default}
use Rattle.zf_planes.proofs.decoding.read_planes.Goals as goal

-- ---- the bits are there

-- whichever program reads them
read : (g : Over) (c : After-skip g) → ReadsTop c.args.budget c.args.prec c.args.size (rest c.args.reader.now) (map g.P.Plane.words c.match-size.planes) c.match-size.left
read g c = search (rules, in-16+in_ok-left-in-16, in-64+in_ok-left-in-64, in_default+in_ok-left-in_default)

spent : (g : Over) (c : After-skip g) → IsSpent c.args.budget c.match-size.left (coded_bits c.args.budget c.args.prec c.args.size (rest c.args.reader.now)) (rest c.args.reader.now)
spent g c = rw (whole_is c.args.budget c.args.prec c.args.size (rest c.args.reader.now)).0 at (read g c).bits

pub returns-clause-short : goal.returns-clause-short
returns-clause-short g c = (λ (no : true ≡ false). cc, λ few. absurd (omega (arith, (spent g c).enough)))

pub returns-clause-count : goal.returns-clause-count
returns-clause-count g c = omega (arith, (spent g c).spent)

pub returns-clause-digits : goal.returns-clause-digits
returns-clause-digits g c = search (rules, length-map, read, whole_is)
