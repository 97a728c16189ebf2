use Rattle.std.specs.Int.{byte_len}
use Rattle.std.proofs.Common.{rules, ◌≡◌, ◌<◌, ◌≤◌, ◌+◌, ◌-◌, ◌*◌, ◌%◌, ⊎_elim, map, take, drop, ap, sym}
use Rattle.std.proofs.Common.{◌∙◌, arith}
use Rattle.std.proofs.lemmas.List.Elements.{All-from_get_or}
use Rattle.std.proofs.lemmas.Bool.{cases_lt}
use Rattle.zf_spec.specs.{Stream.{raw}, Grid.{product}}
use Rattle.zf_pad.proofs.storing.copy_lines.{Given.{Over, Live-loop-held}, Invariants.{Copied}}
use Rattle.zf_pad.{specs.Stored.{raster_of, line_len, values_in}, proofs.Stored.{length-raster_of}}
use Rattle.zf_pad.proofs.RawValues.{length-values_in, raw_within, raw_of_first}
use Rattle.zf_pad.proofs.StoredLines.{line_below, all_taken}
use Rattle.zf_pad.proofs.storing.copy_lines.Goals as goal

pub known_line-known-requires : goal.known_line-known-requires
known_line-known-requires g c = line_below c.args.shape.now c.size-n.result c.args.from c.dims-dims.ensures.shape c.size-n.ensures c.requires.within

pub loop-held-preserved : goal.loop-held-preserved
loop-held-preserved g c =
    let held = c.loop-held.held in
    let next = c.copy_next-held.ensures in
    let count = c.copy_next-held.result in
    let place : c.args.from + held + count ≡ c.args.from + (held + count) = omega arith in
    record {
      within = omega (arith, next.within, c.values.ensures.value, c.requires.within);
      room = next.room;
      known = next.known;
      first = ap (λ k. k % line_len c.args.shape.now % 4) (sym place) ∙ next.first;
      bytes = All-from_get_or (λ b. b < 256) c.copy_next-held.new.piece 0 (λ i within. (c.type_inv.piece i).fits);
      values = λ i lt. ⊎_elim
          (λ (l : i < held). next.before i l ∙ c.loop-held.invariant.values i l)
          (λ (l : held ≤ i).
          let at : held + (i - held) ≡ i = omega (arith, l) in
          let of : c.args.from + held + (i - held) ≡ c.args.from + i = omega (arith, l) in
          rw (at, of) at (next.values (i - held) (omega (arith, lt, l))))
          (cases_lt i held);
    }

pub loop-held-init : goal.loop-held-init
loop-held-init g c = record {
  within = omega arith;
  room = omega arith;
  known = c.known_line-known.ensures.known;
  first = search rules;
  bytes = All-from_get_or (λ b. b < 256) c.args.piece.now 0 (λ i within. (c.type_inv.piece i).fits);
  values = λ i lt. absurd (omega arith);
}

-- the bytes of the values so far
copied : (g : Over) (l : Live-loop-held g) → Copied g l → l.from + l.left ≡ product l.shape
    → take (l.held * byte_len g.T.Lane.width) l.piece
    ≡ raw g.T.Lane.width (take l.held (drop l.from (raster_of l.shape (map g.T.Lane.value l.stored))))
copied g l h all =
    let w = g.T.Lane.width in
    let values = raster_of l.shape (map g.T.Lane.value l.stored) in
    sym (raw_of_first w l.held l.piece h.bytes h.room)
    ∙ ap (raw w)
    (all_taken (values_in w l.piece) values l.from l.held (omega (arith, length-values_in w l.piece, h.room))
    (omega (arith, h.within, all, length-raster_of l.shape (map g.T.Lane.value l.stored))) h.values)

pub returns-else-held-room-clause-room : goal.returns-else-held-room-clause-room
returns-else-held-room-clause-room g c = raw_within g.T.Lane.width c.loop-held.held c.loop-held.piece c.loop-held.invariant.room

pub returns-after-loop-held-clause-room : goal.returns-after-loop-held-clause-room
returns-after-loop-held-clause-room g c = raw_within g.T.Lane.width c.loop-held.held c.loop-held.piece c.loop-held.invariant.room

pub returns-else-held-room-clause-values : goal.returns-else-held-room-clause-values
returns-else-held-room-clause-values g c =
    copied g _ c.loop-held.invariant (omega (arith, c.values.ensures.value, c.requires.within))

pub returns-after-loop-held-clause-values : goal.returns-after-loop-held-clause-values
returns-after-loop-held-clause-values g c =
    copied g _ c.loop-held.invariant (omega (arith, c.values.ensures.value, c.requires.within))
