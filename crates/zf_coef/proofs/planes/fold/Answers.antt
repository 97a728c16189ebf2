use Rattle.std.proofs.Common.{◌≡◌, ℕ, ◌+◌, ◌*◌, ◌/◌, ◌%◌, ◌^◌, ◌<◌, ◌≤◌, get_or, length-set, ◌∙◌, ⊎_elim, arith, rules}
use Rattle.std.{proofs.lemmas.Bool.{cases_lt}, specs.Int.{bit_at}}
use Rattle.zf_coef.{specs.Turned.{bit_of}, proofs.Prefixes.{prefix_tells}}
use Rattle.zf_coef.proofs.ShiftedBits.{bit_at-shr, low_part, high_part}
use Rattle.zf_coef.proofs.planes.fold.Goals as goal

pub loop-r-preserved : goal.loop-r-preserved
loop-r-preserved g c =
    let n = g.row.N in
    let digits = c.args.digits.now in
    let from = c.args.from in
    let r = c.loop-r.r in
    let a = get_or digits r 0 / 2 ^ from in
    let b = get_or digits (r + n) 0 / 2 ^ from in
    record {
      long = length-set c.loop-r.words r _ ∙ c.loop-r.invariant.long;
      cut = prefix_tells (λ (j v : ℕ). (i : ℕ) → i < 64 → bit_at v i ≡ bit_of digits (i / 32 * n + j) (from + i % 32)) c.loop-r.words 0 r _ (omega (arith, c.loop-r.invariant.long))
          (λ i h. ⊎_elim
          (λ (low : i < 32).
          let none : i / 32 ≡ 0 = omega arith in
          rw (none, low_part 32 a b i low h) (search (rules, bit_at-shr)))
          (λ (high : 32 ≤ i).
          let one : i / 32 ≡ 1 = omega arith in
          rw (one, high_part 32 a b i high h) (search (rules, bit_at-shr)))
          (cases_lt i 32))
          c.loop-r.invariant.cut;
    }

pub returns : goal.returns
returns g c r i h within = c.loop-r.invariant.cut r (omega arith) i within
