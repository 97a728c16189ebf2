use Rattle.std.proofs.Common.{rules, ◌≡◌, refl, sym, ap, subst, ◌∙◌, true, ◌&&◌, ltb, leb, ltb-true, None}
use Rattle.std.proofs.lemmas.Bool.{and_parts}
use Rattle.zf_spec.specs.Grid.{blocks}
use Rattle.zf_header.specs.declared.header.Header.{Header}
use Rattle.zf_cached.{specs.Arrays.{array_format}, specs.Splits.{is_view_count}, specs.Steps.{is_line_count}}
use Rattle.zf_array.specs.Standing.{Held, shape, state}
use Rattle.zf_run.{specs.Sessions.{setting_of}, specs.Splits.{FitTogether, AreNewParts, parted_session, split_session}, proofs.Splitting.{has_split, are_parts}}
use Rattle.zf_cached.specs.Commands.{Command}
use Rattle.zf_commands.{specs.Steps.{Does}, proofs.Stepping.{refused_size, refused_memory}}
use Rattle.zf_run.proofs.splits.Parted.split.Goals as goal

pub returns-then-not-may_split : goal.returns-then-not-may_split
unfolding array_format
returns-then-not-may_split g c = search (rules, refused_size)

pub returns-in_default : goal.returns-in_default
unfolding array_format
returns-in_default g c = search (rules, refused_memory)

pub returns : goal.returns
returns g c =
    let a = c.args.self.now.array.now in
    let n = c.args.count in
    let l = c.args.lines in
    let u = c.args.self.now.window in
    let value = g.T.Lane.value in
    let array = subst (FitTogether value g.T.Lane.width g.row.D a) c.requires.whole c.requires.sound in
    let many = c.blocks-2.ensures.value ∙ ap blocks c.shape-shape.ensures.value in
    let tests : (is_view_count (blocks (shape a)) n && is_line_count l) ≡ true =
    subst (λ m. (is_view_count m n && is_line_count l) ≡ true) many (sym c.may_split.ensures ∙ c.if-not-may_split.false) in
    let both = and_parts (is_view_count (blocks (shape a)) n) (is_line_count l) tests in
    let some = ltb-true 0 n (and_parts (ltb 0 n) (ltb n 17 && leb n (blocks (shape a))) both.0).0 in
    let new = subst (λ ns. AreNewParts g.row.D ns n c.raised.result n c.in-Ok.views.items) c.shape-shape.ensures.value c.in-Ok.ensures in
    let flushes = ap state c.see_coded.ensures.same ∙ c.flush.ensures.state in
    let head = ap (λ (h : Held). h.header) c.see_coded.ensures.same ∙ c.flush.ensures.header in
    record {
      does = subst (λ o. Does (setting_of g.T.Lane.width a) (Command.split n l) (parted_session value a o u) (split_session value c.see_coded.new.a c.in-Ok.views.items u) None) (sym c.requires.whole)
          (has_split value g.T.Lane.width g.row.D a _ c.in-Ok.views.items n l c.raised.result array some both.0 both.1 c.raised.ensures.value new flushes head c.see_coded.ensures.coded u c.requires.window);
      sound = are_parts value g.T.Lane.width g.row.D a _ c.in-Ok.views.items n l c.raised.result array some both.0 both.1 c.raised.ensures.value new flushes head c.see_coded.ensures.coded;
      kept = (ap (λ (h : Header). (h.ty, h.mode)) head, refl);
    }
