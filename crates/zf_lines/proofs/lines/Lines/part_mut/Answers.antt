use Rattle.std.proofs.Common.{◌+◌, ◌*◌, refl, sym, ◌∙◌}
use Rattle.zf_lines.proofs.Lent.{block_of, run_held, run_value, stays_filled, line_fits, part_ends, part_fits, part_value, part_now}
use Rattle.zf_lines.proofs.lines.Lines.part_mut.Goals as goal

pub overflow_mul-i : goal.overflow_mul-i
overflow_mul-i g c = record { fits = line_fits (block_of c.self.inside c.self.invariant c.self.view_is c.requires.line) }

pub overflow_add-i : goal.overflow_add-i
overflow_add-i g c =
    record { fits = part_fits (block_of c.self.inside c.self.invariant c.self.view_is c.requires.line) c.args.a c.args.n c.requires.within }

pub slice_mut-requires : goal.slice_mut-requires
slice_mut-requires g c =
    let b = block_of c.self.inside c.self.invariant c.self.view_is c.requires.line in
    (sym b.filled.own.0, run_held b (c.args.i * c.self.inside.len + c.args.a) c.args.n (part_ends b c.args.a c.args.n c.requires.within))

pub invariant_of-self-lent : goal.invariant_of-self-lent
invariant_of-self-lent g c =
    let b = block_of c.self.inside c.self.invariant c.self.view_is c.requires.line in
    stays_filled b (c.args.i * c.self.inside.len + c.args.a) c.args.n (part_ends b c.args.a c.args.n c.requires.within)

pub returns : goal.returns
returns g c =
    let b = block_of c.self.inside c.self.invariant c.self.view_is c.requires.line in
    let ends = part_ends b c.args.a c.args.n c.requires.within in (
      (refl, part_now b c.args.a c.args.n c.requires.within),
      record {
        writes_back = tt;
        value = run_value b (c.args.i * c.self.inside.len + c.args.a) c.args.n ends c.slice_mut.result.now c.slice_mut.ensures.value
            ∙ part_value b c.args.a c.args.n c.requires.within;
      },
    )
