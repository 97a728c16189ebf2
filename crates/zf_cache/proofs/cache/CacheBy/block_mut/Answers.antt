use Rattle.std.proofs.Common.{◌^◌, ◌<◌, arith}
use Rattle.zf_lines.{specs.Rows.{line_at, over}, proofs.Sizes.{length-over}}
use Rattle.zf_cache.{specs.Bodies.{IsWhole}, proofs.Sound.{whole_over}}
use Rattle.std.proofs.Common.{refl, sym, ap, subst, ◌∙◌, length}
use Rattle.zf_cache.{specs.Bodies.{kept_of}, specs.Kept.{Kept}, specs.Loans.{LendsBlockAt, lent_block_at}}
use Rattle.zf_cache.specs.Standing.{FitsAt}
use Rattle.zf_cache.{proofs.Lent.{lends, whole}, proofs.Placed.{lent_is, loans}}
use Rattle.zf_cache.proofs.cache.CacheBy.block_mut.Goals as goal

pub invariant_of-self-lent : goal.invariant_of-self-lent
invariant_of-self-lent g c =
    let t = c.touch_for_writing-l.new.self in let l = c.touch_for_writing-l.result in let e = c.touch_for_writing-l.ensures in
    let is : IsWhole t (4 ^ g.row.D) = subst (IsWhole t) (ap (λ q. q.block_len) e.step.format ∙ c.requires.backed.blocks.0) e.step.fits.whole in
    let lt : l < length t.tags.items = omega (arith, e.line.comes.row, is.size.0) in
    λ w. (whole_over t (4 ^ g.row.D) l (over (line_at t.lines.blocks l) w) is lt (length-over (line_at t.lines.blocks l) w), c.self.invariant.1)

pub returns : goal.returns
returns g c =
    let f = g.B.Reading.format c.args.back.now in let k = g.B.Reading.codes c.args.back.now in let b = c.args.b in let value = g.T.Lane.value in
    let o = kept_of c.self.inside.body in let is = c.self.view_is in
    let fits = subst (λ (q : Kept g.row.T.Denot). FitsAt g.R.Rule.place value q f k) (sym is) c.requires.backed.fits in
    let t = c.touch_for_writing-l.new.self in let l = c.touch_for_writing-l.result in let e = c.touch_for_writing-l.ensures in
    let h = g.B.Reading.format c.touch_for_writing-l.new.back in let j = g.B.Reading.codes c.touch_for_writing-l.new.back in
    let row = c.line_mut.result.now in let row_is = c.line_mut.ensures.value in (
      (
        refl,
        λ w. lends g.R.Rule.place g.R.Placing.may_hold g.met.R.Rule.rule value f h j o t b l e.step.format e.step.fits e.line.comes k e.dirty e.step.state row row_is w
            ∙ lent_is g.R.Rule.place g.R.Placing.line g.met.R.Rule.told value g.R.Placing.may_hold g.met.R.Rule.rule f h j o t b l e.step.format e.step.fits e.line.comes k fits e.dirty e.step.state row row_is w ∙ ap (λ (q : Kept g.row.T.Denot). lent_block_at g.R.Rule.place value g.R.Placing.line f k q b row w) is,
      ),
      record {
        writes_back = tt;
        loan = subst (λ (q : Kept g.row.T.Denot). LendsBlockAt g.R.Rule.place value g.R.Placing.line f k j q b row) is (loans g.R.Rule.place g.R.Placing.line g.met.R.Rule.told value g.R.Placing.may_hold g.met.R.Rule.rule f h j o t b l e.step.format e.step.fits e.line.comes k fits e.dirty e.step.state row row_is);
        size = ap length row_is ∙ whole g.R.Rule.place g.R.Placing.may_hold g.met.R.Rule.rule value f h j o t b l e.step.format e.step.fits e.line.comes ∙ ap (λ q. q.block_len) e.step.format ∙ c.requires.backed.blocks.0;
        keeps = record { format = e.step.format; kept = e.step.kept };
      },
    )
