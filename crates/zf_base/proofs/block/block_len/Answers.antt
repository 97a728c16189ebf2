use Rattle.std.proofs.Common.{◌≡◌, ℕ, zero, suc, ◌*◌, ◌%◌, ◌^◌, ◌≤◌, refl, arith}
use Rattle.zf_base.proofs.block.block_len.Goals as goal

count : (d : ℕ) → d ≤ 4 → 1 * 2 ^ (2 * d) % 18446744073709551616 ≡ 4 ^ d
count zero h = refl
count (suc zero) h = refl
count (suc (suc zero)) h = refl
count (suc (suc (suc zero))) h = refl
count (suc (suc (suc (suc zero)))) h = refl
count (suc (suc (suc (suc (suc d))))) h = absurd (omega arith)

pub returns-clause-value : goal.returns-clause-value
returns-clause-value c = count c.args.d c.requires
