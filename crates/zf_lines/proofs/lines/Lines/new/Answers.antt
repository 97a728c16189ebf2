use Rattle.std.proofs.Common.{◌*◌, List, length, None, Option, [], sym, ap, ◌∙◌, arith, rules}
use Rattle.std.proofs.lemmas.List.{length-replicate}
use Rattle.std.proofs.Math.Nat.{zero-mul}
use Rattle.zf_lines.{specs.Places.{values}, specs.Rows.{rows}, specs.Seen.{none_written}, proofs.Blocks.{rows-replicate}}
use Rattle.zf_lines.proofs.Runs.{is_front, values-front}
use Rattle.zf_lines.proofs.lines.Lines.new.Goals as goal

pub invariant_of-result : goal.invariant_of-result
invariant_of-result g c =
    let made = c.in_ok-base.ensures in let n = c.args.lines * c.args.len in let none : Option g.row.T.Denot = None in
    record {
      own = (made.0, made.2, made.3, made.4);
      front = is_front c.in_ok-base.cells.slots [] n (0 * c.args.len) made.1 (sym (zero-mul c.args.len));
      few = omega arith;
      size = ap length made.1 ∙ length-replicate n none;
      small = search rules;
    }

pub returns : goal.returns
returns g c =
    let n = c.args.lines * c.args.len in
    ap (λ (ls : List (List g.row.T.Denot)). record (none_written c.args.lines c.args.len c.args.zero) { blocks = ls }) (
    ap (λ z. rows c.args.lines c.args.len (values z c.in_ok-base.cells.slots)) c.in_ok-zero.ensures.ok ∙ ap (λ cs. rows c.args.lines c.args.len (values c.args.zero cs)) c.in_ok-base.ensures.1
    ∙ ap (rows c.args.lines c.args.len) (values-front c.args.zero [] n) ∙ rows-replicate c.args.lines c.args.len c.args.zero
    )
