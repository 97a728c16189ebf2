use Rattle.std.proofs.Common.{◌≡◌, ◌+◌, ◌-◌, ◌<◌, ◌≤◌, ◌∷◌, [], refl, sym, ◌∙◌, arith, length-set}
use Rattle.zf_planes.{specs.Decoding.{Takes}, proofs.Passing.{Takes-rest}, proofs.Gathering.{written}}
use Rattle.zf_planes.proofs.Peeking.{window_long, window_passed, Takes-skip}
use Rattle.zf_planes.{proofs.PlanesRead.{known_plane, plane_put}, proofs.Coming.{past, past_rest, one_comes, comes_none, comes_then, comes_there}}
use Rattle.zf_planes.{specs.Moves.{state}, specs.States.{Comes}}
use Rattle.zf_spec.specs.HeldPlanes.{digits_held}
use Rattle.zf_bits.specs.Reader.{rest}
use Rattle.zf_spec.proofs.Fields.{length-field}
use Rattle.zf_planes.proofs.word_reading.read_same.Goals as goal

pub loop-i-init : goal.loop-i-init
loop-i-init g c =
    let now = c.args.cursor.now in
    let none : c.args.from - c.args.from ≡ 0 = omega arith in
    let all : now.left - (now.count - now.count) ≡ now.left = omega arith in
    let here = past_rest (now.count - now.count) c.args.n (state c.args.n now) in
    let start : now.count - now.count ≡ 0 = omega arith in
    record {
      window = rw (here, all, start) now.window;
      fewer = omega arith;
      comes = rw none (comes_none _ refl (record { enough = omega arith; place = omega arith; all = refl; spent = omega arith }));
      zeros = c.requires.zeros;
      long = refl;
      begun = omega arith;
      within = omega (arith, c.requires.some);
      first = λ e. (refl, refl);
    }

pub loop-i-preserved : goal.loop-i-preserved
loop-i-preserved g c =
    let size = c.args.size in
    let n = c.args.n in
    let count = c.loop-i.count in
    let ahead = c.args.cursor.now in
    let before = c.loop-i.invariant in
    let same = c.plane_without-same in
    let len = same.result.len in
    let now = past (ahead.count - count) n (state n ahead) in
    let next = past (ahead.count - (count - len)) n (state n ahead) in
    let plane = c.set_word.new.self in
    let small : len ≤ count = omega (arith, same.ensures.len, c.if-n-count.true) in
    let some : 0 < len = omega (arith, same.ensures.len) in
    let last : len - 1 ≡ n = omega (arith, same.ensures.len) in
    let there = window_long (rest now.reader) c.loop-i.bits count before.window.bits in
    let takes : Takes now.reader next.reader now.left next.left len = record { enough = omega (arith, there, small); place = omega (arith, before.fewer, small); all = refl; spent = omega (arith, before.fewer, before.window.within, small) } in
    let known = known_plane now.left size n c.loop-i.bits count same.result.digits len same.result.above (rest now.reader) (omega (arith, c.requires.in_plane)) before.window same.ensures.read small in
    let put = written size g.P.Plane.word_count same.result.digits (g.P.Plane.words c.zero-plane.result) (g.P.Plane.words plane) (omega arith) c.requires.words (omega (arith, c.requires.words, c.requires.in_plane)) c.zero-plane.ensures c.set_word.ensures same.ensures.read.small in
    let one = one_comes {size = size} {s = now} {t = next} _ len (omega (arith, c.requires.in_plane)) (omega (arith, c.requires.in_plane)) (length-field size same.result.digits) known.1 known.0 (omega (arith, same.ensures.above, same.ensures.read.reached)) takes in
    let one' : Comes size 1 now [] next (digits_held size (g.P.Plane.words plane) ∷ []) = rw put.0 one in
    let more = plane_put g.P.Plane.words c.loop-i.planes plane (omega (arith, before.long, c.requires.planes, c.loop-i-test.true)) put.1 before.zeros one' in
    let parts : c.loop-i.i - c.args.from + 1 ≡ c.loop-i.i + 1 - c.args.from = omega (arith, before.begun) in
    let fewer : now.left - len ≡ next.left = omega (arith, takes.spent) in
    record {
      window = rw (← Takes-rest takes, last, fewer) at (window_passed (rest now.reader) now.left c.loop-i.bits count len before.window some small);
      fewer = omega (arith, before.fewer);
      comes = rw parts at (comes_then before.comes more.0);
      zeros = more.1;
      long = length-set c.loop-i.planes _ plane ∙ before.long;
      begun = omega (arith, before.begun);
      within = omega (arith, c.loop-i-test.true);
      first = λ e. absurd (omega (arith, before.begun, e));
    }

pub invariant_of-cursor : goal.invariant_of-cursor
invariant_of-cursor g c =
    let now = c.args.cursor.now in
    let taken = Takes-skip now.left (now.count - c.loop-i.count) (omega (arith, now.window.within)) (omega (arith, window_long (rest now.reader) now.bits now.count now.window.bits)) c.skip.ensures in
    record { window = rw (Takes-rest taken ∙ sym (past_rest (now.count - c.loop-i.count) c.args.n (state c.args.n now))) c.loop-i.invariant.window }

pub returns-clause-read : goal.returns-clause-read
returns-clause-read g c =
    let now = c.args.cursor.now in
    let taken = Takes-skip now.left (now.count - c.loop-i.count) (omega (arith, now.window.within)) (omega (arith, window_long (rest now.reader) now.bits now.count now.window.bits)) c.skip.ensures in
    let count : now.left - (now.left - (now.count - c.loop-i.count)) ≡ now.count - c.loop-i.count = omega (arith, now.window.within) in
    comes_there c.loop-i.invariant.comes refl (rw count taken)
