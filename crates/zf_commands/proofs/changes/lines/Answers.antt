use Rattle.std.proofs.Common.{refl, rules}
use Rattle.zf_cached.{specs.Commands.{Command}}
use Rattle.zf_commands.proofs.Commanding.{line_count, no_line_count, no_size, no_memory, lined}
use Rattle.zf_commands.proofs.changes.lines.Goals as goal

pub returns-then-count-eq0 : goal.returns-then-count-eq0
returns-then-count-eq0 g c =
    no_size g.A.Subject c.args.a.now c.requires (g.met.A.Target.whole c.args.a.now) (Command.lines c.args.count) refl (no_line_count c.args.count c.then-count-eq0.either)

pub returns-in-Ok : goal.returns-in-Ok
returns-in-Ok g c =
    lined g.A.Subject c.args.a.now c.requires (g.met.A.Target.whole c.args.a.now) c.use_lines.new.self c.args.count
    (line_count c.args.count c.if-count-eq0.false c.if-count-gt-MAX_LINES.false) c.in-Ok.ensures.ok

pub returns-in-Err : goal.returns-in-Err
returns-in-Err g c = search (rules, no_memory, line_count)
