-- What is certified of a stream of a fixed rate.
--     Planes are numbered by their digit, the lowest is plane 0.
use Rattle.std.specs.Prelude.{ℕ, ◌≡◌, ◌+◌, ◌-◌, ◌*◌, ◌^◌, max, nat_lt, ℤ, Bool, List, [], ◌∷◌, ◌++◌, length, IsOk, codes, decimal, if◌then◌else◌}
use Rattle.std.specs.Int.{Width}
use mir.Val.{bits}
use Rattle.zf_spec.specs.Grid.{product}
use Rattle.zf_spec.specs.Stream as stream
use Rattle.zf_base.specs.Widths.{width_of}
use Rattle.zf_header.specs.declared.header.Header.{Header}
use Rattle.zf_header.specs.HeaderBits.{coding}
use Rattle.zf_parse.specs.Parsing.{parse}
use Rattle.zf_block.specs.WholePlanes.{rate_whole_from}
use Rattle.zf_bound.specs.declared.certified.Certified.{Certified}
use Rattle.zf_bound.specs.Errors.{AreWithin, AreClose, lost_below, grown}

-- the bytes are a good stream
abbrev pub IsGood : List ℕ → Type 0
IsGood bytes = IsOk (parse bytes)

-- the plane from which on the planes of each block are whole in its code: the greatest over the codes
abbrev pub plane_of : Width → ℕ → List (List Bool) → ℕ
plane_of w d [] = 0
plane_of w d (code ∷ codes) = max (rate_whole_from w d code) (plane_of w d codes)

-- the bound, where the planes are whole from plane k on
abbrev pub error_of : ℕ → ℕ → ℕ
error_of d k = grown d (lost_below k)

-- what is certified of these codes for contents of magnitudes up to m
abbrev pub certified_of : Header → List (List Bool) → ℕ → Certified
certified_of h cs m =
    let w = width_of h.ty in
    let d = length h.shape in
    let k = plane_of w d cs in
    record {
      plane = k;
      error = error_of d k;
      holds =
          nat_lt (8 * (m + error_of d k + 17)) (2 ^ (bits w - 1));
    }

-- contents of an array that have these codes, and magnitudes up to m
pub record AreContents (h : Header) (cs : List (List Bool)) (m : ℕ) (contents : List ℤ) : Type 0 where
  pub count : length contents ≡ product h.shape
  pub codes_are : stream.codes (width_of h.ty) h.shape (coding h.mode) contents ≡ cs
  pub small : AreWithin m contents

-- each value is within the error of the contents, whichever have these codes and magnitudes up to m
abbrev pub IsBound : Header → List (List Bool) → ℕ → ℕ → List ℤ → Type 0
IsBound h cs m error values = (contents : List ℤ) → AreContents h cs m contents
    → AreClose error contents values

-- what is certified, in a line: the plane, and the bound where it holds
abbrev pub bound_text : Certified → List ℕ
bound_text c = codes "plane " ++ decimal c.plane ++ (if c.holds then codes " bound " ++ decimal c.error else codes " no bound") ++ codes "\n"
