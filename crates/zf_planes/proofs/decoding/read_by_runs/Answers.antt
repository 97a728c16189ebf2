use Rattle.std.proofs.Common.{◌≡◌, ℕ, ◌+◌, ◌-◌, ◌<◌, ◌≤◌, min, Bool, List, ◌++◌, length, take, refl, sym, ap, ◌∙◌, arith}
use Rattle.std.proofs.lemmas.Option.{IfSome_then}
use Rattle.zf_spec.specs.ReadPlanes.{first_bits}
use Rattle.zf_bits.specs.Reader.{Reader, rest}
use Rattle.zf_planes.specs.Decoding.{Takes, tail_ahead, tail_bits, plane_ahead, plane_bits}
use Rattle.zf_planes.proofs.Passing.{Passes-start, Passes-part, Passes-lacks, Takes-rest, Takes-sum, if_none, on_none}
use Rattle.zf_planes.{proofs.PlaneAhead.{plane_is}, proofs.PlanesAhead.{planes_bits-one}}
use Rattle.zf_planes.{specs.States.{Lack}, proofs.Coming.{one_comes}}
use Rattle.zf_spec.proofs.HeldPlanes.{length-digits_held}
use Rattle.zf_planes.proofs.decoding.read_by_runs.Given.{Over}
use Rattle.zf_planes.proofs.decoding.read_by_runs.Goals as goal

-- the first n digits are read, and what reading makes of the plane goes on with its tail
first_read : {old mid : Reader} {left after : ℕ} (size n : ℕ) → n ≤ size → Takes old mid left after (min n left)
    → (plane_bits left size n (rest old) ≡ min n left + tail_bits after (size - n) (rest mid))
    × (plane_ahead left size n (rest old) ≡ first_bits n (take left (rest old)) ++ tail_ahead after (size - n) (rest mid))
first_read {old} {mid} {left} {after} size n within takes =
    let spent : after ≡ left - min n left = omega (arith, takes.spent) in
    rw (Takes-rest takes, spent) (plane_is left size n (rest old) within)

one_lacks : (size n left : ℕ) (now : Reader) → length (rest now) < plane_bits left size n (rest now) → Lack size 1 (record { left = left; above = n; reader = now })
one_lacks size n left now few = omega (arith, few, planes_bits-one left size n (rest now))

pub returns-in_err-prefix-clause-short : goal.returns-in_err-prefix-clause-short
returns-in_err-prefix-clause-short g c =
    let now = c.args.cursor.now in
    if_none _ (one_lacks c.args.size c.args.n now.left now.reader (omega (arith, c.in_err-prefix.ensures.short.few, (plane_is now.left c.args.size c.args.n (rest now.reader) c.requires.in_plane).0)))

-- looking again leaves the reader and what is left of the budget
looked : (g : Over) (c : goal.After-read_tail g) → Takes c.args.cursor.now.reader c.new.result.reader c.args.cursor.now.left c.new.result.left (min c.args.n c.args.cursor.now.left)
looked g c = rw (c.new.ensures.left, c.new.ensures.reader) c.in_ok-prefix.ensures.taken

pub returns-clause-short : goal.returns-clause-short
returns-clause-short g c =
    let now = c.args.cursor.now in
    let taken = looked g c in
    let read = first_read c.args.size c.args.n c.requires.in_plane taken in
    let passes = Passes-part _ (Passes-start now.reader now.left _) read.0 taken in
    on_none c.read_tail.result c.read_tail.ensures.short (λ lacks. one_lacks c.args.size c.args.n now.left now.reader (Passes-lacks passes lacks (omega arith)).few)

pub returns-clause-read : goal.returns-clause-read
returns-clause-read g c =
    let taken = looked g c in
    let read = first_read c.args.size c.args.n c.requires.in_plane taken in
    let next = c.new.result in
    IfSome_then c.read_tail.result c.read_tail.ensures.read (λ one tail.
    let long = length-digits_held c.args.size (g.P.Plane.words one.plane) (omega (arith, c.requires.words, g.met.P.Plane.long one.plane)) in
    let digits = tail.digits ∙ ap (λ (bs : List Bool). bs ++ tail_ahead next.left (c.args.size - c.args.n) (rest next.reader)) c.in_ok-prefix.ensures.digits ∙ sym read.1 in
    record { comes = one_comes _ _ c.requires.some c.requires.in_plane long (sym digits) refl tail.reached (Takes-sum _ _ taken read.0 tail.taken); clear = tail.clear })
