-- Windows: parts of an array that are seen as an array of their own (steps are this project's own).
--     Origins, sizes, steps and positions are lists of one number for each axis, x first.
use Rattle.std.specs.Prelude.{ℕ, ◌≡◌, ◌+◌, ◌-◌, ◌*◌, Bool, true, ◌&&◌, nat_lt, nat_le, List, [], ◌∷◌, map, length, slice_index_or, slice_set}
use Rattle.std.specs.List.{list_all}
use Rattle.zf_spec.specs.Grid.{upto, product, coordinates, is_inside}

pub record Window : Type 0 where
  pub origin : List ℕ
  pub size : List ℕ
  pub step : List ℕ

-- origin + p * step along each axis
abbrev pub stepped : List ℕ → List ℕ → List ℕ → List ℕ
stepped (o ∷ os) (t ∷ ts) (p ∷ ps) = (o + p * t) ∷ stepped os ts ps
stepped _ _ _ = []

-- the position of the array that position ps of a window is
abbrev pub mapped : Window → List ℕ → List ℕ
mapped w ps = stepped w.origin w.step ps

-- the whole array
abbrev pub whole : List ℕ → Window
whole ns = record { origin = map (λ n. 0) ns; size = ns; step = map (λ n. 1) ns }

-- the window with one place of an axis: size 1 there
abbrev pub sliced : Window → ℕ → ℕ → Window
sliced w axis at =
    record w {
      origin = slice_set w.origin axis (slice_index_or w.origin axis 0 + at * slice_index_or w.step axis 0);
      size = slice_set w.size axis 1;
    }

-- the axis is one of the window's, and the place is below its size
abbrev pub has_place : Window → ℕ → ℕ → Bool
has_place w axis at = nat_lt axis (length w.size) && nat_lt at (slice_index_or w.size axis 0)

-- no number is zero
abbrev pub none_zero : List ℕ → Bool
none_zero ns = list_all (λ n. nat_le 1 n) ns

-- the last position lies in an array of these sizes, and with it every other
abbrev pub lies_in : List ℕ → Window → Bool
lies_in ns w = is_inside ns (mapped w (map (λ n. n - 1) w.size))

-- a window of an array: no size and no step is zero, and it lies in the array
abbrev pub is_window : List ℕ → Window → Bool
is_window ns w = none_zero w.size && (none_zero w.step && lies_in ns w)

-- a window of an array, with as many axes
pub record LiesIn (ns : List ℕ) (w : Window) : Type 0 where
  pub origins : length w.origin ≡ length ns
  pub sizes : length w.size ≡ length ns
  pub steps : length w.step ≡ length ns
  pub inside : is_window ns w ≡ true

-- the positions of a window in raster order, as positions of the array
abbrev pub positions : Window → List (List ℕ)
positions w = map (λ k. mapped w (coordinates w.size k)) (upto (product w.size))
