use Rattle.std.{proofs.Common.{rules, inr}, proofs.lemmas.Result.{err_from_is_err_and}}
use Rattle.zf_dev.proofs.Devices.{Reads-told}
use Rattle.zf_stream.{proofs.Endings.{unread}, proofs.RestoreEndings.{no_room, restored_behind}}
use Rattle.zf_stream.{proofs.Drawing.{spent_still}, proofs.Answering.{on_ok_weaker}, proofs.FromPrefix.{given_of}, proofs.GivenBack.{refused_unwritten, restored_by, behind_from, behind_none}}
use Rattle.zf_stream.proofs.restoring.restore_as.Goals as goal

pub returns-in_err-room : goal.returns-in_err-room
returns-in_err-room g c =
    let p = err_from_is_err_and c.from_residual.result c.from_residual.ensures.1 in
    record {
      outcome = rw (p.1, c.read_ahead.ensures.contents_stay) (no_room c.args.prefix.now p.0 (g.S.Source.contents c.args.src.now) (g.O.Sink.contents c.args.out.now) p.2);
      given = rw p.1 (refused_unwritten c.args.prefix.now (behind_none c.args.prefix.now c.read_ahead.ensures.ungiven) _ _ (inr (inr (inr p.2))));
      ended = search (rules, err_from_is_err_and);
      source = search (rules, err_from_is_err_and, unread);
      sink = search (rules, err_from_is_err_and);
    }

pub restore_rows-requires : goal.restore_rows-requires
restore_rows-requires g c = record {
  room = record {
    same_type = c.requires.same_type;
    rows = c.in_ok-room.ensures.rows;
    codes = record {
      longest = c.in_ok-room.ensures.longest;
      held = c.in_ok-room.ensures.held;
      fill = c.in_ok-room.ensures.fill;
      values = c.in_ok-room.ensures.values;
      ended = λ is. spent_still c.read_ahead.ensures.contents_stay c.read_ahead.ensures.still_ended (c.requires.begun.ended (c.in_ok-room.ensures.ended is));
    };
  };
}

pub returns : goal.returns
returns g c =
    let done = c.restore_rows.ensures in
    let window = c.in_ok-room.room.window in
    record {
      outcome = rw (← c.read_ahead.ensures.contents_stay)
          (restored_behind g.S.Source c.args.h.now c.args.header_len c.args.prefix.now c.requires.begun.begun window c.in_ok-room.ensures.bits c.in_ok-room.ensures.place c.restore_rows.result _ _ _ _
          done.ok done.err done.refused);
      given = restored_by (behind_from c.args.prefix.now c.read_ahead.ensures.ungiven) c.restore_rows.result
          (given_of c.args.h.now c.args.header_len c.args.prefix.now c.requires.begun.begun window c.in_ok-room.ensures.bits c.in_ok-room.ensures.place g.S.Source _ _ c.restore_rows.result _ _
          done.ok done.err done.refused);
      ended = on_ok_weaker c.restore_rows.result done.ok (λ done. done.ended.told);
      source = Reads-told c.read_ahead.ensures.kept c.read_ahead.ensures.faults_stay c.read_ahead.ensures.sure done.source;
      sink = done.sink;
    }
