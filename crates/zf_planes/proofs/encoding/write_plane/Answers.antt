use Rattle.std.proofs.Common.{rules, ◌≡◌, ℕ, List, ◌-◌, ◌*◌, ◌≤◌, ap, length, take, drop, sym, arith, length-append, length-take}
use Rattle.zf_spec.{specs.Planes.{tail}, specs.HeldPlanes.{digits_held}}
use Rattle.zf_spec.proofs.HeldPlanes.{length-digits_held}
use Rattle.zf_planes.{proofs.Budgets.{take_append}, proofs.Digits.{held_prefix}}
use Rattle.zf_bits.proofs.Appending.{Appends-append, Appends-same}
use Rattle.zf_planes.proofs.encoding.write_plane.Goals as goal

-- the digits that were written are the first n of the plane
prefix_long : (size n k : ℕ) (ws : List ℕ) → size ≤ 64 * k → length ws ≡ k → n ≤ size → length (take n (digits_held size ws)) ≡ n
prefix_long size n k ws words long within = omega (arith, length-take n (digits_held size ws), length-digits_held size ws (omega arith))

pub write_digits-left-requires-clause-fits : goal.write_digits-left-requires-clause-fits
write_digits-left-requires-clause-fits g c = search (rules, length-append, prefix_long)

pub write_tail-requires-clause-fits : goal.write_tail-requires-clause-fits
write_tail-requires-clause-fits g c = search (rules, held_prefix, length-append, prefix_long, length-take)

pub returns : goal.returns
returns g c =
    let n = c.args.n in
    let ws = g.P.Plane.words c.args.plane.now in
    let ds = digits_held c.args.size ws in
    let first = Appends-same c.write_digits-left.ensures.bits (ap (take c.args.left) (held_prefix c.args.size n ws c.requires.in_plane)) in
    let spent : c.write_digits-left.result ≡ c.args.left - length (take n ds) =
    omega (arith, c.write_digits-left.ensures.left, prefix_long c.args.size n _ ws c.requires.words (g.met.P.Plane.long c.args.plane.now) c.requires.in_plane) in
    let second = rw spent at c.write_tail.ensures.bits in
    record {
      bits = Appends-same (Appends-append first second) (sym (take_append c.args.left (take n ds) (tail (drop n ds))));
      left = search (rules, length-append, prefix_long);
    }
