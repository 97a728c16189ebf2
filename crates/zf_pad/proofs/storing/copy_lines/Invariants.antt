use Rattle.std.proofs.Common.{◌≡◌, ◌<◌, All, ◌+◌, ◌-◌, ◌/◌, ◌≤◌, map, get_or, pos, length, ℕ}
use Rattle.std.specs.Int.{byte_len}
use Rattle.zf_pad.specs.Stored.{raster_of, IsFirst, IsKnown, other_sizes, values_in}
use Rattle.zf_pad.proofs.storing.copy_lines.Given as goal

-- the values so far were copied
pub record Copied (g : goal.Over) (l : goal.Live-loop-held g) : Type 0 where
  pub within : l.held ≤ l.left
  pub room : l.held ≤ length l.piece / byte_len g.T.Lane.width
  pub known : IsKnown (other_sizes l.shape) l.known
  pub first : IsFirst l.shape (l.from + l.held)
  pub bytes : All (λ b. b < 256) l.piece
  pub values : (i : ℕ) → i < l.held → get_or (values_in g.T.Lane.width l.piece) i (pos 0)
      ≡ get_or (raster_of l.shape (map g.T.Lane.value l.stored)) (l.from + i) (pos 0)

abbrev pub invariant-loop-held : goal.invariant-loop-held
invariant-loop-held g l = Copied g l

abbrev pub decreases-loop-held : goal.decreases-loop-held
decreases-loop-held g l = l.left - l.held
