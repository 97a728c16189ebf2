use Rattle.std.proofs.Common.{ℕ, ◌+◌, ◌*◌, ◌/◌, ◌%◌, ◌<◌, ◌≡◌, length-set, ◌∙◌, arith}
use Rattle.std.{proofs.lemmas.Bool.{cases_lt}, specs.Int.{bit_at}}
use Rattle.zf_coef.{specs.Turned.{bit_of}, proofs.Prefixes.{prefix_tells}}
use Rattle.zf_coef.proofs.ShiftedBits.{low_part, high_part}
use Rattle.zf_coef.proofs.planes.fold_four.Goals as goal

pub loop-r-preserved : goal.loop-r-preserved
loop-r-preserved c =
    record {
      long = length-set c.loop-r.words c.loop-r.r _ ∙ c.loop-r.invariant.long;
      cut = prefix_tells (λ (j v : ℕ). (i : ℕ) → i < 64 → bit_at v i ≡ bit_of c.args.digits.now (i / 16 * 16 + j) (i % 16)) c.loop-r.words 0 c.loop-r.r _
          (omega (arith, c.loop-r.invariant.long))
          (λ i h. grind (arith, low_part 16, high_part 16, low_part 32, high_part 32, cases_lt))
          c.loop-r.invariant.cut;
    }

pub returns : goal.returns
returns c r i h within = c.loop-r.invariant.cut r (omega arith) i within
