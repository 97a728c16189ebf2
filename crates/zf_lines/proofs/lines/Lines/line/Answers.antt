use Rattle.std.proofs.Common.{◌*◌, sym, ◌∙◌}
use Rattle.zf_lines.proofs.Lent.{block_of, run_held, run_value, line_ends, line_fits, line_value}
use Rattle.zf_lines.proofs.lines.Lines.line.Goals as goal

pub overflow_mul-i : goal.overflow_mul-i
overflow_mul-i g c = record { fits = line_fits (block_of c.self.inside c.self.invariant c.self.view_is c.requires) }

pub slice-requires : goal.slice-requires
slice-requires g c =
    let b = block_of c.self.inside c.self.invariant c.self.view_is c.requires in
    (sym b.filled.own.0, run_held b (c.args.i * c.self.inside.len) c.self.inside.len (line_ends b))

pub returns : goal.returns
returns g c =
    let b = block_of c.self.inside c.self.invariant c.self.view_is c.requires in
    run_value b (c.args.i * c.self.inside.len) c.self.inside.len (line_ends b) c.slice.result.now c.slice.ensures ∙ line_value b
