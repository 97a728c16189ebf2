use Rattle.std.proofs.Common.{◌*◌, refl, sym, ◌∙◌}
use Rattle.zf_lines.proofs.Lent.{block_of, run_held, run_value, stays_filled, line_ends, line_fits, line_value, line_now}
use Rattle.zf_lines.proofs.lines.Lines.line_mut.Goals as goal

pub overflow_mul-i : goal.overflow_mul-i
overflow_mul-i g c = record { fits = line_fits (block_of c.self.inside c.self.invariant c.self.view_is c.requires) }

pub slice_mut-requires : goal.slice_mut-requires
slice_mut-requires g c =
    let b = block_of c.self.inside c.self.invariant c.self.view_is c.requires in
    (sym b.filled.own.0, run_held b (c.args.i * c.self.inside.len) c.self.inside.len (line_ends b))

pub invariant_of-self-lent : goal.invariant_of-self-lent
invariant_of-self-lent g c =
    let b = block_of c.self.inside c.self.invariant c.self.view_is c.requires in
    stays_filled b (c.args.i * c.self.inside.len) c.self.inside.len (line_ends b)

pub returns : goal.returns
returns g c =
    let b = block_of c.self.inside c.self.invariant c.self.view_is c.requires in (
      (refl, line_now b),
      record {
        writes_back = tt;
        value = run_value b (c.args.i * c.self.inside.len) c.self.inside.len (line_ends b) c.slice_mut.result.now c.slice_mut.ensures.value ∙ line_value b;
      },
    )
