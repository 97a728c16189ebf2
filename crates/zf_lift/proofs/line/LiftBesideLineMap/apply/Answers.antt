use Rattle.std.proofs.Common.{◌∙◌, ◌≡◌, ℤ, pos, FitsSigned, ap, subst}
use Rattle.std.specs.Int.{w64, cast_unsigned}
use Rattle.zf_spec.specs.Numbers.{wrap}
use Rattle.zf_lift.proofs.Biased.{is_wide, word_value}
use Rattle.zf_lift.proofs.line.LiftBesideLineMap.apply.Goals as goal

pub returns : goal.returns
returns g c =
    let wide = is_wide g.T.Lane.width g.met.T.Lane.two_widths (cc (g.met.T.Lane.bits_of_width, c.if-WIDTH-ne64.false)) in
    let same : (v : ℤ) → g.T.Lane.in_range v → wrap w64 (pos (cast_unsigned g.T.Lane.width v)) ≡ v =
    λ v inside. ap (λ w. wrap w64 (pos (cast_unsigned w v))) wide ∙ word_value v (subst (λ w. FitsSigned w v) wide ((g.met.T.Lane.in_range_fits v).0 inside)) in
    let x = same _ c.to_word.ensures.operand in
    let y = same _ c.to_word-2.ensures.operand in
    let z = same _ c.to_word-3.ensures.operand in
    let w = same _ c.to_word-4.ensures.operand in
    cc
