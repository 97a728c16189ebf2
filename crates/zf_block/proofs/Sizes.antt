-- The sizes of blocks.
use Rattle.std.proofs.Common.{◌≡◌, ℕ, zero, suc, ◌*◌, ◌^◌, ◌≤◌, ◌%◌, ◌⊎◌, inl, inr, ℤ, List, length, refl, sym, arith}
use Rattle.zf_spec.{specs.Grid.{fours}, specs.Padding.{pad}}
use Rattle.zf_pad.proofs.Sources.{pad-whole}

pub block_sizes : (d n : ℕ) → 1 ≤ d → d ≤ 4 → n ≡ 4 ^ d → (n ≡ 4) ⊎ (n ≡ 16) ⊎ (n ≡ 64) ⊎ (n ≡ 256)
block_sizes (suc zero) n some four e = inl e
block_sizes (suc (suc zero)) n some four e = inr (inl e)
block_sizes (suc (suc (suc zero))) n some four e = inr (inr (inl e))
block_sizes (suc (suc (suc (suc zero)))) n some four e = inr (inr (inr e))
block_sizes d n some four e = absurd (omega arith)

-- room for the longest code of a block
pub room_of : (d n k : ℕ) → 1 ≤ d → d ≤ 4 → n ≡ 4 ^ d → k ≤ 65 → n * k ≤ 16640
room_of (suc zero) n k some four e few = rw e (omega arith)
room_of (suc (suc zero)) n k some four e few = rw e (omega arith)
room_of (suc (suc (suc zero))) n k some four e few = rw e (omega arith)
room_of (suc (suc (suc (suc zero)))) n k some four e few = rw e (omega arith)
room_of d n k some four e few = absurd (omega arith)

-- a block has whole rows of four
pub rows_whole : (d n : ℕ) → 1 ≤ d → d ≤ 4 → n ≡ 4 ^ d → n % 4 ≡ 0
rows_whole d n some four e = omega (arith, block_sizes d n some four e)

-- a block that is padded stays as it is
pub pad-padded : (d : ℕ) (block : List ℤ) → length block ≡ 4 ^ d → pad (fours d) block ≡ block
pad-padded d block long = sym (pad-whole d (fours d) block refl long)
