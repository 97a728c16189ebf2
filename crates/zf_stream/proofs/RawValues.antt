-- The raw bytes of values, one part after another.
use Rattle.std.proofs.Common.{◌≡◌, sym, ap, ◌∙◌, ℕ, ℤ, List, ◌++◌, take, drop, take-append-drop}
use Rattle.std.specs.Int.{Width}
use Rattle.zf_spec.specs.Stream.{raw}
pub use Rattle.zf_pad.proofs.RawValues.{raw-append, values_from-append}

-- those of the first values are in front
pub raw_prefix : (w : Width) (n : ℕ) (values : List ℤ) → raw w values ≡ raw w (take n values) ++ raw w (drop n values)
raw_prefix w n values = ap (raw w) (sym (take-append-drop n values)) ∙ raw-append w (take n values) (drop n values)
