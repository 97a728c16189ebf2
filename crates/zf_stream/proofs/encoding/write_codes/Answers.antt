use Rattle.std.proofs.Common.{rules, ◌≡◌, ℕ, ◌+◌, ◌-◌, ◌≤◌, Bool, List, ◌++◌, map, Option, append_assoc, arith}
use Rattle.std.{proofs.lemmas.List.{append-nil}, specs.List.{flat_map}}
use Rattle.std.proofs.lemmas.Result.{err_from_is_err_and}
use Rattle.zf_spec.{specs.Grid.{blocks, upto, count_from, extent_of, block_of}, specs.Stream.{block_code}}
use Rattle.zf_header.specs.HeaderBits.{coding}
use Rattle.zf_stream.{specs.Flows.{Flows, Spills}, proofs.OnErrors.{on_err}, proofs.Failing.{WritesOnly-ok}}
use Rattle.zf_stream.proofs.Flowing.{Flows-more, Flows-next, Flows-spill, Spills-more}
use Rattle.zf_stream.proofs.Rooms.{Keeps-next, room_kept}
use Rattle.zf_parse.proofs.Codes.{joined-more, joined-prefix}
use Rattle.zf_dev.proofs.Devices.{Writes-more}
use Rattle.zf_stream.proofs.encoding.write_codes.Goals as goal

module _ (f : ℕ → List Bool) (start : List Bool) where
  -- one code more is at hand
  one_more : {a b : Option (List ℕ)} {left now : List Bool} (n : ℕ) → Flows a b (start ++ flat_map (λ c. c) (map f (upto n))) left → now ≡ left ++ f n → Flows a b (start ++ flat_map (λ c. c) (map f (upto (n + 1)))) now
  one_more {a} {b} {left} {now} n flows is = rw (is, ← joined-more f start n) (Flows-more (f n) flows)

  -- where the sink fails before all codes are at hand
  fewer : {a b : Option (List ℕ)} (k n : ℕ) → k ≤ n → Spills a b (start ++ flat_map (λ c. c) (map f (upto k))) → Spills a b (start ++ flat_map (λ c. c) (map f (upto n)))
  fewer {a} {b} k n within spills =
      let rest = flat_map (λ c. c) (map f (count_from k (n - k))) in
      let all : k + (n - k) ≡ n = omega arith in
      rw (append_assoc, ← joined-prefix f k (n - k), all) at (Spills-more rest spills)

pub returns-in_err-write_where_many-clause-err : goal.returns-in_err-write_where_many-clause-err
returns-in_err-write_where_many-clause-err g c =
    let h = c.args.h.now in
    let b = c.loop-b.b in
    let f = λ (k : ℕ). block_code g.T.Lane.width (coding h.mode) (extent_of h.shape k) (block_of h.shape (map g.T.Lane.value c.args.values.now) k) in
    let start = c.args.room.now.codes.bits in
    let more = one_more f start b c.loop-b.invariant.flows c.write_code.ensures.code.bits in
    on_err c.from_residual.result _
    (fewer f start (b + 1) (blocks h.shape) (omega (arith, c.loop-b-test.true, c.blocks-b-end.ensures.value)) (Flows-spill more c.in_err-write_where_many.ensures.err))

pub loop-b-preserved : goal.loop-b-preserved
loop-b-preserved g c =
    let h = c.args.h.now in
    let b = c.loop-b.b in
    let f = λ (k : ℕ). block_code g.T.Lane.width (coding h.mode) (extent_of h.shape k) (block_of h.shape (map g.T.Lane.value c.args.values.now) k) in
    let start = c.args.room.now.codes.bits in
    let more = one_more f start b c.loop-b.invariant.flows c.write_code.ensures.code.bits in
    record {
      flows = Flows-next more c.in_ok-write_where_many.ensures.ok;
      few = c.in_ok-write_where_many.ensures.few;
      keeps = Keeps-next (Keeps-next c.loop-b.invariant.keeps c.write_code.ensures.keeps) c.write_where_many.ensures.keeps;
      sink = Writes-more c.loop-b.invariant.sink c.write_where_many.ensures.sink.device;
    }

pub returns-in_err-write_where_many-clause-keeps : goal.returns-in_err-write_where_many-clause-keeps
returns-in_err-write_where_many-clause-keeps g c = Keeps-next (Keeps-next c.loop-b.invariant.keeps c.write_code.ensures.keeps) c.write_where_many.ensures.keeps

pub returns-in_err-write_where_many-clause-sink : goal.returns-in_err-write_where_many-clause-sink
returns-in_err-write_where_many-clause-sink g c = search (rules, err_from_is_err_and)

pub loop-b-init : goal.loop-b-init
loop-b-init g c = search (rules, append-nil)

pub write_code-requires-clause-dims : goal.write_code-requires-clause-dims
write_code-requires-clause-dims g c = (room_kept c.requires.room c.loop-b.invariant.keeps).dims

pub write_code-requires-clause-fits : goal.write_code-requires-clause-fits
write_code-requires-clause-fits g c = omega (arith, (room_kept c.requires.room c.loop-b.invariant.keeps).fits, c.loop-b.invariant.few)

pub returns-clause-sink : goal.returns-clause-sink
returns-clause-sink g c = WritesOnly-ok tt c.loop-b.invariant.sink
