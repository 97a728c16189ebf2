use Rattle.std.proofs.Common.{◌^◌, ◌<◌, ◌+◌, ◌≤◌, length, refl, sym, ap, subst, ◌∙◌, arith}
use Rattle.zf_lines.specs.Rows.{line_at, part, over_part, with_part}
use Rattle.zf_cache.{specs.Kept.{Kept, HasRowAt, line_by}, specs.Bodies.{kept_of}, proofs.Sound.{row_of, whole_over, length-over_part}}
use Rattle.zf_cache.proofs.cache.CacheBy.part_mut.Goals as goal

pub part_mut-requires : goal.part_mut-requires
part_mut-requires g c =
    let o = c.self.inside.body in let whole = c.self.invariant.0 in let l = c.line_of-l.result in
    record {
      line = row_of g.R.Rule.place o c.args.self.now (4 ^ g.row.D) c.args.b l c.self.view_is whole c.line_of-l.ensures.place (omega (arith, c.requires.dirty));
      within = subst (λ n. c.args.a + c.args.n ≤ n) (sym (whole.size.1 l c.line_of-l.ensures.inside)) c.requires.within;
    }

pub invariant_of-self-lent : goal.invariant_of-self-lent
invariant_of-self-lent g c =
    let o = c.self.inside.body in let l = c.line_of-l.result in let lt = c.line_of-l.ensures.inside in let whole = c.self.invariant.0 in
    λ w. (whole_over o (4 ^ g.row.D) l (over_part (line_at o.lines.blocks l) c.args.a c.args.n w) whole lt (length-over_part (line_at o.lines.blocks l) c.args.a c.args.n w), c.self.invariant.1)

pub returns : goal.returns
returns g c =
    let o = c.self.inside.body in let b = c.args.b in let is = c.self.view_is in let place = c.line_of-l.ensures.place in let size = c.self.invariant.0.size in
    let there : line_by g.R.Rule.place (kept_of o) b < length o.lines.blocks = subst (λ m. m < length o.lines.blocks) place (omega (arith, c.line_of-l.ensures.inside, size.0)) in
    let row : HasRowAt g.R.Rule.place (kept_of o) b (4 ^ g.row.D) = record { there = there; size = (refl, λ i lt. size.1 i (omega (arith, lt, size.0))) } in (
      (
        refl,
        λ w. (λ i. record (kept_of o) { lines = with_part o.lines.blocks (place i) c.args.a c.args.n w })
            ∙ ap (λ (q : Kept g.row.T.Denot). record q { lines = with_part q.lines (line_by g.R.Rule.place q b) c.args.a c.args.n w }) is,
      ),
      record {
        writes_back = tt;
        value = c.part_mut.ensures.value ∙ ap (λ m. part (line_at o.lines.blocks m) c.args.a c.args.n) place ∙ ap (λ (q : Kept g.row.T.Denot). part (line_at q.lines (line_by g.R.Rule.place q b)) c.args.a c.args.n) is;
        size = subst (λ (q : Kept g.row.T.Denot). HasRowAt g.R.Rule.place q b (4 ^ g.row.D)) is row;
      },
    )
