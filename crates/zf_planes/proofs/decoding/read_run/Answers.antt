use Rattle.std.proofs.Common.{rules, ◌≡◌, ◌+◌, ◌-◌, ◌<◌, ◌≤◌, length, drop, refl, sym, ap, ◌∙◌, arith}
use Rattle.std.proofs.lemmas.List.{nil_from_length}
use Rattle.zf_bits.specs.Reader.{rest}
use Rattle.zf_planes.specs.Decoding.{run_ahead, run_bits, tail_ahead, tail_bits}
use Rattle.zf_planes.proofs.Passing.{Passes-part, Passes-lacks, Takes-rest}
use Rattle.zf_planes.proofs.Peeking.{peeked, zeros_ahead, one_ahead, run_zeros, zeros_and_one, replicate_both, Takes-skip}
use Rattle.zf_planes.proofs.Steps.{run_stands, run_short}
use Rattle.zf_planes.proofs.decoding.read_run.Goals as goal

-- ---- the bits end

pub returns-then-ahead-eq0-clause-short : goal.returns-then-ahead-eq0-clause-short
returns-then-ahead-eq0-clause-short c =
    let s = rest c.loop-zeros.reader in
    let none : length s ≡ 0 = omega (arith, c.if-ahead-eq0.true, c.min-ahead.ensures, c.min-in-loop-zeros.ensures, c.min.ensures, c.left.ensures.count, c.if-left-gt0.true, c.loop-zeros-test.true) in
    let needed = run_short c.loop-zeros.left (c.args.most - c.loop-zeros.zeros) s c.if-left-gt0.true (omega (arith, c.loop-zeros-test.true)) (nil_from_length s none) in
    Passes-lacks c.loop-zeros.invariant.passes (record { few = omega arith; all = refl }) needed

-- ---- the one

pub returns-then-count-ahead-clause-read : goal.returns-then-count-ahead-clause-read
returns-then-count-ahead-clause-read c =
    let z = c.loop-zeros.zeros in
    let left = c.loop-zeros.left in
    let k = c.min-count.result in
    let s = rest c.loop-zeros.reader in
    let window = peeked s c.peek.result c.min-ahead.result c.peek.ensures (omega (arith, c.min-ahead.ensures)) (omega (arith, c.min-ahead.ensures, c.min-in-loop-zeros.ensures, c.min.ensures, c.left.ensures.count)) in
    let split = one_ahead s c.peek.result c.min-ahead.result k window c.peek.type_inv (omega (arith, c.min-count.ensures, c.from.ensures, c.if-count-ahead.true)) c.if-count-ahead.true (omega (arith, c.min-ahead.ensures)) in
    let both = zeros_and_one k left (c.args.most - z) s (omega (arith, c.if-count-ahead.true, c.min-ahead.ensures, c.min-in-loop-zeros.ensures, c.min.ensures))
    (omega (arith, c.if-count-ahead.true, c.min-ahead.ensures, c.min-in-loop-zeros.ensures)) split in
    let passed = Takes-skip left (k + 1) (omega (arith, c.if-count-ahead.true, c.min-ahead.ensures, c.min-in-loop-zeros.ensures, c.min.ensures))
    (omega (arith, c.if-count-ahead.true, c.min-ahead.ensures, c.min-in-loop-zeros.ensures, c.min.ensures, c.left.ensures.count)) c.skip.ensures in
    let place : c.args.most - z - k - 1 ≡ c.args.most - (z + k) - 1 = omega arith in
    let after : left - (k + 1) ≡ left - k - 1 = omega arith in
    let bits = ap (λ n. tail_bits (left - k - 1) n (drop (k + 1) s)) place ∙ ap (tail_bits (left - k - 1) (c.args.most - (z + k) - 1)) (sym (Takes-rest passed)) in
    let digits = ap (λ n. tail_ahead (left - k - 1) n (drop (k + 1) s)) place ∙ ap (tail_ahead (left - k - 1) (c.args.most - (z + k) - 1)) (sym (Takes-rest passed)) in
    record {
      within = omega (arith, c.if-count-ahead.true, c.min-ahead.ensures, c.min-in-loop-zeros.ensures);
      taken = (Passes-part (tail_bits (left - k - 1) (c.args.most - (z + k) - 1) (rest c.skip.new.self)) c.loop-zeros.invariant.passes (omega (arith, both.0, bits, passed.spent)) (rw after at passed)).taken;
      bits = omega (arith, both.0, bits, c.loop-zeros.invariant.passes.sum, c.loop-zeros.invariant.passes.taken.spent, passed.spent);
      digits = search (rules, replicate_both);
    }

-- ---- only zeros

pub loop-zeros-preserved : goal.loop-zeros-preserved
loop-zeros-preserved c =
    let z = c.loop-zeros.zeros in
    let left = c.loop-zeros.left in
    let k = c.min-count.result in
    let m = c.args.most - z in
    let s = rest c.loop-zeros.reader in
    let before = c.loop-zeros.invariant in
    let in_budget : k ≤ left = omega (arith, c.min-count.ensures, c.min-ahead.ensures, c.min-in-loop-zeros.ensures, c.min.ensures) in
    let there : k ≤ length s = omega (arith, c.min-count.ensures, c.min-ahead.ensures, c.min-in-loop-zeros.ensures, c.min.ensures, c.left.ensures.count) in
    let below : k < m = omega (arith, c.min-count.ensures, c.min-ahead.ensures, c.min-in-loop-zeros.ensures, c.loop-zeros-test.true) in
    let window = peeked s c.peek.result c.min-ahead.result c.peek.ensures (omega (arith, c.min-ahead.ensures)) (omega (arith, c.min-ahead.ensures, c.min-in-loop-zeros.ensures, c.min.ensures, c.left.ensures.count)) in
    let split = zeros_ahead s c.peek.result c.min-ahead.result k window c.peek.type_inv (omega (arith, c.min-count.ensures, c.from.ensures)) (omega (arith, c.min-count.ensures)) in
    let zeros = run_zeros k left m s (drop k s) in_budget below split in
    let passed = Takes-skip left k in_budget there c.skip-in-loop-zeros.ensures in
    let behind = rest c.skip-in-loop-zeros.new.self in
    let fewer : m - k ≡ c.args.most - (z + k) = omega arith in
    let bits = ap (λ n. run_bits (left - k) n (drop k s)) fewer ∙ ap (run_bits (left - k) (c.args.most - (z + k))) (sym (Takes-rest passed)) in
    let digits = ap (λ n. run_ahead (left - k) n (drop k s)) fewer ∙ ap (run_ahead (left - k) (c.args.most - (z + k))) (sym (Takes-rest passed)) in
    record {
      passes = Passes-part (run_bits (left - k) (c.args.most - (z + k)) behind) before.passes (omega (arith, zeros.0, bits)) passed;
      digits = search (rules, replicate_both);
      within = omega (arith, below);
    }

-- ---- the one has no bit

pub returns-else-left-gt0-clause-read : goal.returns-else-left-gt0-clause-read
returns-else-left-gt0-clause-read c = search (rules, run_stands)

pub returns-after-loop-zeros-clause-read : goal.returns-after-loop-zeros-clause-read
returns-after-loop-zeros-clause-read c = search (rules, run_stands)
