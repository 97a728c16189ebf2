use Rattle.std.proofs.Common.{◌≡◌, ℕ, ◌+◌, ◌-◌, ◌<◌, ◌≤◌, ◌⊎◌, ⊎_elim, inl, inr, List, length, map, set, ◌∙◌, sym, arith, length-set}
use Rattle.std.proofs.lemmas.List.{length-map}
use Rattle.zf_bits.specs.Reader.{Reader}
use Rattle.zf_planes.{proofs.Passing.{if_none}, proofs.Coming.{comes_then, comes_lack, lack_of_one}}
use Rattle.zf_planes.{specs.Moves.{state, MovesOverPlane}, specs.States.{State, Lack}}
use Rattle.zf_planes.proofs.PlanesRead.{AreRead, zeros_read, plane_put, read_over}
use Rattle.zf_planes.proofs.word_reading.read_by_kinds.Goals as goal

-- a plane more
more : {A : Type 0} (words : A → List ℕ) {budget prec size i : ℕ} {start : Reader} {s t : State} (planes : List A) (plane : A) → AreRead budget prec size start s i (map words planes) → i < prec → prec ≤ length planes → MovesOverPlane size s t (words plane)
    → AreRead budget prec size start t (i + 1) (map words (set planes (length planes - 1 - i) plane))
more words planes plane before below fits one =
    let put = plane_put words planes plane (omega arith) one.clear before.zeros one.comes in
    record { comes = comes_then before.comes put.0; zeros = put.1; within = omega arith }

pub loop-i-init : goal.loop-i-init
loop-i-init g c =
    let n = length c.args.planes.now in
    let zeros = c.pass_zero_planes-i.ensures in
    let taken = rw (c.new-cursor.ensures.left, c.new-cursor.ensures.reader) at zeros.taken in
    record {
      read = zeros_read c.args.prec c.args.size n g.P.Plane.word_count _ _ c.requires.planes.some c.requires.planes.words c.requires.planes.blank c.requires.planes.enough zeros.within taken (rw c.new-cursor.ensures.reader at zeros.zeros);
      long = omega arith;
    }

-- ---- before all ranks have had a one

lacks : {budget prec size i : ℕ} {start : Reader} {planes : List (List ℕ)} (s : State) → AreRead budget prec size start s i planes → i < prec → Lack size 1 s → Lack size prec (record { left = budget; above = 0; reader = start })
lacks {budget} {prec} {size} {i} s read below lack = comes_lack prec (prec - i) read.comes (omega arith) (lack_of_one size (prec - i) s (omega arith) lack)

pub returns-in_err-read-clause-short : goal.returns-in_err-read-clause-short
returns-in_err-read-clause-short g c =
    if_none _ (lacks (state c.loop-i.above c.loop-i.cursor) c.loop-i.invariant.read c.loop-i-test.true (rw (c.look_on.ensures.left, c.look_on.ensures.reader) at c.in_err-read.ensures.short))

pub loop-i-preserved : goal.loop-i-preserved
loop-i-preserved g c =
    let before = c.loop-i.invariant in
    let read = rw (c.look_on.ensures.left, c.look_on.ensures.reader) at c.in_ok-read.ensures.read in
    record {
      read = more g.P.Plane.words c.loop-i.planes c.in_ok-read.read.plane before.read c.loop-i-test.true (omega (arith, before.long, c.requires.planes.enough)) read;
      long = length-set c.loop-i.planes _ c.in_ok-read.read.plane ∙ before.long;
    }

pub loop-i-preserved-then-cursor-above-eq0 : goal.loop-i-preserved-then-cursor-above-eq0
loop-i-preserved-then-cursor-above-eq0 g c =
    let before = c.loop-i.invariant in
    let same = c.read_same-i in
    let comes = rw (c.look_on.ensures.left, c.look_on.ensures.reader) at same.ensures.read in
    let parts : c.loop-i.i + (same.result - c.loop-i.i) ≡ same.result = omega (arith, same.ensures.some) in
    record {
      read = record { comes = rw parts at (comes_then before.read.comes comes); zeros = same.ensures.zeros; within = same.ensures.within };
      long = same.ensures.long ∙ before.long;
    }

-- ---- once all ranks have had a one

all_ranks : (above size left prec i : ℕ) → (above ≡ size) ⊎ ((left ≡ 0) ⊎ (prec ≤ i)) → 0 < left → i < prec → above ≡ size
all_ranks above size left prec i all some below = ⊎_elim (λ same. same) (⊎_elim (λ none. absurd (omega arith)) (λ end. absurd (omega arith))) all

pub returns-in_err-read-2-clause-short : goal.returns-in_err-read-2-clause-short
returns-in_err-read-2-clause-short g c =
    let all = all_ranks _ _ _ _ _ c.loop-i-2.invariant.all c.if-cursor-gt0-2.true c.loop-i-2-test.true in
    if_none _ (lacks (state c.args.size c.loop-i-2.cursor) (rw all at c.loop-i-2.invariant.read) c.loop-i-2-test.true c.in_err-read-2.ensures.short)

pub loop-i-2-preserved : goal.loop-i-2-preserved
loop-i-2-preserved g c =
    let before = c.loop-i-2.invariant in
    let one = c.in_ok-read-2.read in
    let all = all_ranks _ _ _ _ _ before.all c.if-cursor-gt0-2.true c.loop-i-2-test.true in
    let read = c.in_ok-read-2.ensures.read in
    let same : one.above ≡ c.args.size = omega (arith, read.comes.risen, read.comes.ranks (omega arith)) in
    let next = more g.P.Plane.words c.loop-i-2.planes one.plane (rw all at before.read) c.loop-i-2-test.true (omega (arith, before.long, c.requires.planes.enough)) read in
    record {
      read = rw (all ∙ sym same) next;
      long = length-set c.loop-i-2.planes _ one.plane ∙ before.long;
      all = inl all;
    }

pub returns-else-cursor-gt0-2-clause-read : goal.returns-else-cursor-gt0-2-clause-read
returns-else-cursor-gt0-2-clause-read g c =
    read_over _ c.loop-i-2.invariant.read c.requires.planes.some (omega (arith, length-map c.loop-i-2.planes g.P.Plane.words, c.loop-i-2.invariant.long, c.requires.planes.enough)) (inl (omega (arith, c.if-cursor-gt0-2.false)))

pub returns-after-loop-i-2-clause-read : goal.returns-after-loop-i-2-clause-read
returns-after-loop-i-2-clause-read g c =
    read_over _ c.loop-i-2.invariant.read c.requires.planes.some (omega (arith, length-map c.loop-i-2.planes g.P.Plane.words, c.loop-i-2.invariant.long, c.requires.planes.enough)) (inr (omega (arith, c.loop-i-2-test.false)))
