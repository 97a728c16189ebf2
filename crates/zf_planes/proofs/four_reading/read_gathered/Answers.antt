use Rattle.std.proofs.Common.{◌≡◌, ℕ, ◌+◌, ◌-◌, inl, inr, false, List, [], ◌∷◌, ◌++◌, ◌≤◌, Bool, replicate, refl, ◌∙◌, arith}
use Rattle.zf_bits.specs.Reader.{Reader}
use Rattle.zf_planes.{specs.Lanes.{gathered, IsGathered}, proofs.LastRank.{three_through}, proofs.Passing.{if_none}}
use Rattle.zf_planes.{specs.States.{State, Comes}, specs.Moves.{state}}
use Rattle.zf_planes.proofs.Lanes.{gathered_words, low_planes-zeros, four_below, no_lanes_below}
use Rattle.zf_planes.proofs.LanesAhead.{FoursRead, gathered-more}
use Rattle.zf_planes.proofs.Coming.{zeros_come, comes_then, comes_behind, comes_lack, comes_over}
use Rattle.zf_planes.proofs.four_reading.read_gathered.Goals as goal

-- planes more
more : {budget prec c : ℕ} {start : Reader} {s t : State} {words words' : List ℕ} {done done' lanes lanes' held held' : ℕ} (planes : List (List Bool)) → FoursRead budget prec start s words done lanes held → c ≤ prec - (done + held) → Comes 4 c s [] t planes
    → IsGathered words' done' lanes' held' → gathered words' done' lanes' held' ≡ gathered words done lanes held ++ planes → done' + held' ≡ done + held + c → held' ≤ 12 → FoursRead budget prec start t words' done' lanes' held'
more {budget} {prec} {c} {start} {s} {t} {words} {words'} {done} {done'} {lanes} {lanes'} {held} {held'} planes before fits come put is sum few = record {
  comes = rw (sum, is) (comes_then before.comes (comes_behind (gathered words done lanes held) come));
  put = put;
  within = omega (arith, before.within, sum, fits);
  few = few;
}

-- ---- the planes of zeros at the top

pub loop-digits-init : goal.loop-digits-init
loop-digits-init c =
    let words : List ℕ = 0 ∷ 0 ∷ 0 ∷ 0 ∷ [] in
    let passed = c.pass_zero_planes-zeros in
    let k = passed.result in
    let now = passed.new.self in
    let held : gathered words k 0 0 ≡ replicate k (replicate 4 false) = gathered_words words k 0 0 refl ∙ low_planes-zeros k in
    let zeros = rw (c.new-cursor.ensures.left, c.new-cursor.ensures.reader) at (zeros_come 4 k (state 0 c.new-cursor.result) (state 0 now) (omega arith) refl refl passed.ensures.zeros passed.ensures.taken) in
    let sum : k + 0 ≡ k = omega arith in
    let before : FoursRead c.args.budget c.args.prec c.args.reader.now (state 0 now) words k 0 0 = record { comes = rw (sum, held) zeros; put = record { four = refl; prefix = four_below k; back = no_lanes_below 0 4 }; within = omega (arith, passed.ensures.within); few = omega arith } in
    let lone = c.read_lone-lone in
    record { read = more _ before (omega (arith, lone.ensures.read.fits)) lone.ensures.read.comes (record { four = refl; prefix = four_below k; back = lone.ensures.read.below }) (gathered-more words k lone.result.lanes lone.result.count) (omega arith) lone.ensures.few }

-- ---- some planes more

pub read_next-requires-clause-in_plane : goal.read_next-requires-clause-in_plane
read_next-requires-clause-in_plane c = c.loop-digits.invariant.read.comes.ranks (omega arith)

pub returns-in_err-some-clause-short : goal.returns-in_err-some-clause-short
returns-in_err-some-clause-short c = let read = c.loop-digits.invariant.read in if_none _ (comes_lack c.args.prec _ read.comes (omega (arith, read.within)) c.in_err-some.ensures.short)

pub loop-cursor-init : goal.loop-cursor-init
loop-cursor-init c =
    let ok = c.in_ok-some.ensures.read.read in
    let added = c.add-digits.ensures in
    record { read = more _ c.loop-digits.invariant.read ok.fits ok.comes added.gathered added.planes added.sum added.held; more = omega arith }

pub loop-cursor-preserved : goal.loop-cursor-preserved
loop-cursor-preserved c =
    let before = c.loop-cursor.invariant in
    let four = c.read_sixteen in
    let added = c.add-digits-in-loop-cursor.ensures in
    let read = rw (c.sees.ensures.left, c.sees.ensures.reader) at four.ensures.read in
    let come = three_through (omega (arith, c.loop-cursor-test.true)) (before.read.comes.ranks (omega arith)) read.comes in
    record { read = more _ before.read read.fits come added.gathered added.planes added.sum added.held; more = omega (arith, before.more, added.sum) }

-- ---- no bit or no plane is left

pub returns-else-cursor-gt0-clause-read : goal.returns-else-cursor-gt0-clause-read
returns-else-cursor-gt0-clause-read c =
    let read = c.loop-digits.invariant.read in
    let all = comes_over c.args.prec (omega arith) (omega arith) read.comes read.within (inl (omega (arith, c.if-cursor-gt0.false))) in
    record { bits = all.0; gathering = read.put; within = read.within; held = read.few; digits = all.1 }

pub returns-after-loop-digits-clause-read : goal.returns-after-loop-digits-clause-read
returns-after-loop-digits-clause-read c =
    let read = c.loop-digits.invariant.read in
    let all = comes_over c.args.prec (omega arith) (omega arith) read.comes read.within (inr (omega (arith, c.loop-digits-test.false))) in
    record { bits = all.0; gathering = read.put; within = read.within; held = read.few; digits = all.1 }
