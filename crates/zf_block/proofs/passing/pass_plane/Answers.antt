use Rattle.std.proofs.Common.{ap, ◌-◌, ◌<◌, length, drop, drop-drop, ◌∙◌, arith}
use Rattle.std.proofs.lemmas.List.{length-drop}
use Rattle.zf_spec.{specs.Planes.{plane_code}, specs.ReadPlanes.{plane_in}}
use Rattle.zf_planes.proofs.Passing.{if_none}
use Rattle.zf_block.specs.Passing.{tail_len}
use Rattle.zf_block.proofs.PlanesPassed.{plane_len, plane_reach}
use Rattle.zf_block.proofs.passing.pass_plane.Goals as goal

pub returns-then-left-n-clause-short : goal.returns-then-left-n-clause-short
returns-then-left-n-clause-short c = omega (arith, plane_len c.args.size c.args.n c.args.ahead.now c.requires.in_plane, c.left.ensures, c.if-left-n.true)

pub returns-in_err-behind-clause-short : goal.returns-in_err-behind-clause-short
returns-in_err-behind-clause-short c =
    let s = c.args.ahead.now in
    let n = c.args.n in
    let short = rw c.skip.ensures at c.in_err-behind.ensures.short in
    let few : length s < length (plane_code n (plane_in c.args.size n s)) =
    omega (arith, plane_len c.args.size n s c.requires.in_plane, short, length-drop n s, c.left.ensures, c.if-left-n.false) in
    if_none _ few

pub returns : goal.returns
returns c =
    let s = c.args.ahead.now in
    let n = c.args.n in
    let len = plane_len c.args.size n s c.requires.in_plane in
    let tail = rw c.skip.ensures at c.in_ok-behind.ensures.passed in
    record {
      short = tt;
      fits = omega (arith, len, tail.fits, length-drop n s, c.left.ensures, c.if-left-n.false);
      passed = tail.passed ∙ drop-drop (tail_len (c.args.size - n) (drop n s)) n s ∙ ap (λ k. drop k s) (omega (arith, len));
      reached = omega (arith, plane_reach c.args.size n s, tail.digits, c.requires.in_plane);
      within = omega arith;
    }
