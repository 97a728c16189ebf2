-- The nearest number, and what is restored by values.
use Rattle.std.proofs.Common.{◌≡◌, ap, subst, ◌∙◌, ℕ, ◌/◌, ◌≤◌, ℤ, ◌-ℤ◌, unsigned_abs, List, length, Ok, arith}
use Rattle.std.{proofs.lemmas.Int.{ints, clamps}, specs.Int.{w32}}
use Rattle.zf_spec.{specs.Numbers.{AreValues}, specs.Stream.{raw, values_from}}
use Rattle.zf_spec.proofs.RawValues.{length-raw, values_from-raw}
use Rattle.zf_base.{specs.Widths.{width_of}, specs.declared.lane.Ty.{Ty}}
use Rattle.zf_base.specs.declared.lane.Ty.TheVariants.{I32}
use Rattle.zf_parse.{specs.Parsing.{Said, parse}, proofs.Parts.{said_fit, text_of_said}}
use Rattle.zf_narrow.{specs.declared.narrow.Narrow.{Narrow}, specs.Values.{IsNarrow, nearest}}
use Rattle.zf_narrow.{specs.RawNarrow.{raw_narrow, demoted_bytes}, specs.Texts.{narrow_restored}}

-- no number of the type is nearer
pub none_nearer : (n : Narrow) (v x : ℤ) → IsNarrow n x → unsigned_abs (nearest n v -ℤ v) ≤ unsigned_abs (x -ℤ v)
none_nearer n v x is = grind (arith, ints, clamps)

-- the raw bytes of int32 values as those of the numbers that they stand for
demoted_values : (n : Narrow) (values : List ℤ) → AreValues w32 values → demoted_bytes n (raw w32 values) ≡ raw_narrow n values
demoted_values n values fit =
    let count : length (raw w32 values) / 4 ≡ length values = omega (arith, length-raw w32 values) in
    ap (λ k. raw_narrow n (values_from w32 k (raw w32 values))) count ∙ ap (raw_narrow n) (values_from-raw w32 values fit)

pub restored_values : (n : Narrow) (bytes : List ℕ) (said : Said) → parse bytes ≡ Ok said → said.header.ty ≡ I32
    → narrow_restored n bytes ≡ raw_narrow n said.values
restored_values n bytes said good int32 =
    let fit = subst (λ (t : Ty). AreValues (width_of t) said.values) int32 (said_fit bytes said good) in
    cc (text_of_said bytes said good, demoted_values n said.values fit)
