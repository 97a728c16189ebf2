use Rattle.std.proofs.Common.{◌≡◌, ◌+◌, ◌*◌, sym, ap, subst, ◌∙◌, arith}
use Rattle.zf_lines.{specs.Places.{IsFront}, specs.Seen.{Seen, written_to}, proofs.Lent.{has_room, begins_before, grown, grown_none}}
use Rattle.zf_lines.proofs.lines.Lines.write_to.Goals as goal

pub overflow_mul-i : goal.overflow_mul-i
overflow_mul-i g c = let r = has_room c.self.inside c.self.invariant c.self.view_is c.requires in record { fits = omega (arith, r.small) }

pub overflow_add-i : goal.overflow_add-i
overflow_add-i g c = let r = has_room c.self.inside c.self.invariant c.self.view_is c.requires in record { fits = omega (arith, r.small) }

pub overflow_add-self : goal.overflow_add-self
overflow_add-self g c = let r = has_room c.self.inside c.self.invariant c.self.view_is c.requires in record { fits = omega (arith, r.small) }

pub fill-requires-clause-within : goal.fill-requires-clause-within
fill-requires-clause-within g c =
    let r = has_room c.self.inside c.self.invariant c.self.view_is c.requires in
    (begins_before c.self.inside.written c.args.i c.self.inside.len c.if-i-self.false, r.ends)

pub invariant_of-self : goal.invariant_of-self
invariant_of-self g c =
    let r = has_room c.self.inside c.self.invariant c.self.view_is c.requires in let h = c.self.invariant in let f = c.fill.ensures.filled in
    let i = c.args.i in let len = c.self.inside.len in
    let ends : i * len + len ≡ (i + 1) * len = omega arith in
    record {
      own = (c.fill.ensures.at ∙ h.own.0, h.own.1, h.own.2, h.own.3);
      front = subst (IsFront c.fill.new.cells.slots) ends f.front;
      few = omega (arith, r.line);
      size = f.size ∙ h.size;
      small = h.small;
    }

pub returns-then-i-self : goal.returns-then-i-self
returns-then-i-self g c =
    sym c.self.view_is ∙ grown_none c.self.inside c.args.i c.if-i-self.true ∙ ap (λ (s : Seen g.row.T.Denot). written_to s c.args.i) c.self.view_is

pub returns : goal.returns
returns g c =
    let len = c.self.inside.len in
    grown c.self.inside c.args.i c.deref.result.now c.fill.new.cells (c.args.i * len + len) c.deref.ensures c.fill.ensures.filled c.if-i-self.false
    ∙ ap (λ (s : Seen g.row.T.Denot). written_to s c.args.i) c.self.view_is
