-- The widths of the two types.
use Rattle.std.{proofs.Common.{rules, ◌≡◌, ℕ, ◌≤◌, ◌⊎◌}, specs.Int.{Width, w32, w64}}
use mir.Val.{bits}

pub width_bounds : (w : Width) (n : ℕ) → (w ≡ w32) ⊎ (w ≡ w64) → n ≡ bits w → (32 ≤ n) × (n ≤ 64)
width_bounds w n two e = search rules
