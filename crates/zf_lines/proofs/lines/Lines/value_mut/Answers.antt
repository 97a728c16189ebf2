use Rattle.std.proofs.Common.{◌+◌, ◌*◌, ◌≤◌, ◌∷◌, [], length, refl, sym, ap, subst, ◌∙◌, arith}
use Rattle.zf_lines.{specs.Places.{values}, specs.Rows.{rows, line_at}, specs.Filled.{IsFilled}}
use Rattle.zf_lines.specs.declared.cells.Cells.{Cells}
use Rattle.zf_lines.proofs.Lent.{block_of, stays_filled, line_fits, part_ends, part_fits, part_now, place_held, place_now, value_at}
use Rattle.zf_lines.proofs.lines.Lines.value_mut.Goals as goal

pub overflow_mul-i : goal.overflow_mul-i
overflow_mul-i g c = record { fits = line_fits (block_of c.self.inside c.self.invariant c.self.view_is c.requires.line) }

pub overflow_add-i : goal.overflow_add-i
overflow_add-i g c =
    let b = block_of c.self.inside c.self.invariant c.self.view_is c.requires.line in
    let one : c.args.a + 1 ≤ length (line_at c.args.self.now.blocks c.args.i) = omega (arith, c.requires.within) in
    record { fits = part_fits b c.args.a 1 one }

pub value_mut-requires : goal.value_mut-requires
value_mut-requires g c =
    let b = block_of c.self.inside c.self.invariant c.self.view_is c.requires.line in
    let one : c.args.a + 1 ≤ length (line_at c.args.self.now.blocks c.args.i) = omega (arith, c.requires.within) in
    (sym b.filled.own.0, place_held b (c.args.i * c.self.inside.len + c.args.a) (part_ends b c.args.a 1 one))

pub invariant_of-self-lent : goal.invariant_of-self-lent
invariant_of-self-lent g c =
    let b = block_of c.self.inside c.self.invariant c.self.view_is c.requires.line in
    let one : c.args.a + 1 ≤ length (line_at c.args.self.now.blocks c.args.i) = omega (arith, c.requires.within) in
    let s = c.self.inside in let at = c.args.i * s.len + c.args.a in let ends = part_ends b c.args.a 1 one in
    λ w. subst (λ (d : Cells g.row.T.Denot). IsFilled s.base s.lines s.written s.len d s.deed s.alloc) (sym (place_now b at ends w)) (stays_filled b at 1 ends (w ∷ []))

pub returns : goal.returns
returns g c =
    let b = block_of c.self.inside c.self.invariant c.self.view_is c.requires.line in
    let one : c.args.a + 1 ≤ length (line_at c.args.self.now.blocks c.args.i) = omega (arith, c.requires.within) in
    let s = c.self.inside in let at = c.args.i * s.len + c.args.a in let ends = part_ends b c.args.a 1 one in (
      (refl, λ w. ap (λ (d : Cells g.row.T.Denot). record { blocks = rows s.lines s.len (values s.zero.value d.slots); written = s.written }) (place_now b at ends w) ∙ part_now b c.args.a 1 one (w ∷ [])),
      record {
        writes_back = tt;
        value = value_at b c.args.a c.value_mut.result.now c.requires.within c.value_mut.ensures.value;
      },
    )
