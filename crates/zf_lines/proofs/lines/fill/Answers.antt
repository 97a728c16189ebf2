use Rattle.std.proofs.Common.{◌≡◌, ◌+◌, suc, sym, subst, ◌∙◌, arith}
use Rattle.zf_lines.{specs.Places.{IsFilledTo}, proofs.Runs.{fills_more}}
use Rattle.zf_lines.proofs.lines.fill.Goals as goal

pub loop-i-preserved : goal.loop-i-preserved
loop-i-preserved g c =
    let on : c.loop-i.i + 1 ≡ suc c.loop-i.i = omega arith in let f = c.loop-i.invariant.2 in (
      c.loop-i.invariant.0 ∙ sym c.write.ensures.0,
      c.write.ensures.0 ∙ c.loop-i.invariant.1,
      subst (λ ds. IsFilledTo c.args.zero c.args.cells.now.slots ds (c.loop-i.i + 1)) (sym c.write.ensures.1) (fills_more c.args.zero c.args.cells.now.slots c.loop-i.cells.slots c.loop-i.i (c.loop-i.i + 1) f (omega (arith, f.size, c.requires.within)) on),
    )
