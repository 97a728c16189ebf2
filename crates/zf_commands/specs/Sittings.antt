-- An array and a window as what a script works on.
use Rattle.std.specs.Prelude.{ℕ, ◌≡◌, List, length, Option, None}
use Rattle.zf_base.specs.declared.position.Pos.{Pos}
use Rattle.zf_base.specs.Positions.{used_axes}
use Rattle.zf_base.specs.Places.{block_number}
use Rattle.zf_cached.specs.State.{State}
use Rattle.zf_cached.specs.Windows.{Window}
use Rattle.zf_cached.specs.Views.{View}
use Rattle.zf_cached.specs.Steps.{Session}

-- an array with these sizes and this state, whole or split into views, seen through a window
abbrev pub sitting : {Code : Type 0} → List ℕ → State Code → Option (List View) → Window → Session Code
sitting ns s split window = record { shape = ns; state = s; window = window; split = split }

-- a whole one
abbrev pub session : {Code : Type 0} → List ℕ → State Code → Window → Session Code
session ns s window = sitting ns s None window

-- a position as the language has it, and its block
abbrev pub place_in : {Code : Type 0} → Session Code → Pos → List ℕ
place_in s p = used_axes (length s.shape) p

abbrev pub block_in : {Code : Type 0} → Session Code → Pos → ℕ
block_in s p = block_number s.shape (place_in s p)

-- only the state is another
abbrev pub OnState : {Code : Type 0} → Session Code → Session Code → Type 0
OnState s t = t ≡ record s { state = t.state }
