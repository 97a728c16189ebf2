use Rattle.std.proofs.Common.{rules, sym, ap, subst, ◌∙◌, None}
use Rattle.zf_commands.{specs.Kinds.{cmd_of_kind, asked}, specs.Steps.{Does}, proofs.Stepping.{refused_split}}
use Rattle.zf_commands.proofs.Sorting.{by_kind, not_of_split}
use Rattle.zf_run.{specs.Sessions.{setting_of}, specs.Splits.{parted_session, session_in}}
use Rattle.zf_run.proofs.Parting.{some_parted, has_joined, refuses_whole}
use Rattle.zf_run.proofs.splits.Parted.obey_parted.Goals as goal

pub returns-in-Join : goal.returns-in-Join
returns-in-Join g c =
    let p = c.args.self.now in
    let q = c.join.new.self in
    let value = g.T.Lane.value in
    let S = setting_of g.T.Lane.width p.array.now in
    let s = session_in value p in
    let t = session_in value q in
    let joins = c.join.ensures.joined ∙ ap (λ o. parted_session value q.array.now o q.window) (sym c.join.ensures.whole) in
    record {
      does = subst (λ k. Does S (asked s (cmd_of_kind k)) s t None) (sym c.in-Join.is) (has_joined S s t c.requires.window (some_parted value p.array.now p.views.now c.requires.parted) joins);
      sound = search rules;
      kept = c.join.ensures.kept;
    }

pub returns-in_default : goal.returns-in_default
returns-in_default g c = search (rules, refused_split, refuses_whole, some_parted, by_kind, not_of_split)
