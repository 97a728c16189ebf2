use Rattle.std.proofs.Common.{◌≡◌, ℕ, ◌%◌, ◌<◌, ◌+◌, ◌-◌, drop, true, eqb, ap, ◌∙◌, arith}
use Rattle.zf_bits.specs.Reader.{Reader, rest}
use Rattle.zf_planes.specs.Decoding.{IsWindow, Takes, Lacks, tail_ahead, tail_bits, run_ahead, run_bits}
use Rattle.zf_planes.proofs.Passing.{Passes-start, Passes-part, Passes-lacks, Takes-rest, Takes-sum, if_none}
use Rattle.zf_planes.{proofs.Peeking.{group_ahead, first_bit}, proofs.Steps.{tail_run}}
use Rattle.zf_planes.proofs.decoding.read_group.Goals as goal

-- ---- the run lies among the bits that were looked at

pub returns-then-bits-cursor-clause-read : goal.returns-then-bits-cursor-clause-read
returns-then-bits-cursor-clause-read c =
    let now = c.args.cursor.now in
    let here = group_ahead (rest now.reader) now.left now.bits now.count c.args.most c.min-zeros.result c.min-bits.result now.window (omega arith) c.requires.one c.requires.some c.requires.there c.min-zeros.ensures c.min-bits.ensures
    c.if-bits-cursor.true in
    let passed = c.pass.ensures.taken in
    let spent : c.pass.new.self.left ≡ now.left - c.min-bits.result = omega (arith, passed.spent) in
    let count : now.left - c.pass.new.self.left ≡ c.min-bits.result = omega (arith, passed.spent) in
    record {
      within = omega (arith, c.min-zeros.ensures, c.requires.some);
      taken = rw count passed;
      bits = rw (spent, Takes-rest passed) (omega (arith, here.bits, passed.spent));
      digits = rw (spent, Takes-rest passed) here.digits;
    }

-- ---- it goes on behind them

-- the bits that are needed behind the group bit
behind_group : {now mid : Reader} {left after : ℕ} (bits count most : ℕ) → IsWindow left bits count (rest now) → 0 < count → bits % 2 ≡ 1 → 0 < most → Takes now mid left after 1
    → (tail_bits left most (rest now) ≡ 1 + run_bits after most (rest mid)) × (tail_ahead left most (rest now) ≡ run_ahead after most (rest mid))
behind_group {now} {mid} {left} {after} bits count most window there odd some passed =
    let one = first_bit (rest now) bits count true window.bits there (ap (λ b. eqb b 1) odd) in
    let spent : after ≡ left - 1 = omega (arith, passed.spent) in
    let run = tail_run left most (rest now) (drop 1 (rest now)) (omega (arith, passed.spent)) some one in
    rw (spent, Takes-rest passed) (omega (arith, run.0), run.1)

-- a reader of its own stands where the cursor's does
pub returns-in_err-run-clause-short : goal.returns-in_err-run-clause-short
returns-in_err-run-clause-short c =
    let now = c.args.cursor.now in
    let group = behind_group now.bits now.count c.args.most now.window c.requires.there c.requires.one c.requires.some c.pass-2.ensures.taken in
    let passes = Passes-part _ (Passes-start now.reader now.left _) group.0 c.pass-2.ensures.taken in
    let lacks = rw c.another-place.ensures at c.in_err-run.ensures.short in
    let short : Lacks now.reader c.pass-2.new.self.reader (tail_bits now.left c.args.most (rest now.reader)) = record { few = (Passes-lacks passes lacks (omega arith)).few; all = c.pass-2.ensures.taken.all } in
    if_none _ short

pub returns-clause-read : goal.returns-clause-read
returns-clause-read c =
    let now = c.args.cursor.now in
    let group = behind_group now.bits now.count c.args.most now.window c.requires.there c.requires.one c.requires.some c.pass-2.ensures.taken in
    let first = c.pass-2.ensures.taken in
    let read = rw c.another-place.ensures at c.in_ok-run.ensures.read in
    let run = read.taken in
    record {
      within = read.within;
      taken = rw (c.new.ensures.left, c.new.ensures.reader) (Takes-sum _ _ first (omega (arith, first.spent, run.spent)) run);
      bits = rw (c.new.ensures.left, c.new.ensures.reader) (omega (arith, group.0, read.bits, first.spent, run.spent));
      digits = rw (c.new.ensures.left, c.new.ensures.reader) (group.1 ∙ read.digits);
    }
