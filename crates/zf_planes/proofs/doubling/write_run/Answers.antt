use Rattle.std.proofs.Common.{rules, ◌≡◌, ℕ, ◌-◌, ◌/◌, ◌%◌, ◌^◌, ◌<◌, Bool, List, ◌++◌, arith, append_assoc, length-append}
use Rattle.zf_bits.specs.Writer.{Writer}
use Rattle.zf_spec.{specs.Numbers.{field}, specs.Planes.{code_from_run}, proofs.Fields.{length-field}}
use Rattle.zf_planes.{specs.Doubled.{doubled}, specs.Writes.{Remains}, proofs.Doubled.{run_goes_on}}
use Rattle.zf_planes.proofs.Budgets.{Remains-same, Remains-through, room_for}
use Rattle.zf_planes.proofs.doubling.write_run.Goals as goal

pub loop-digits-init : goal.loop-digits-init
loop-digits-init c = search (rules, length-append, length-field)

-- eight digits more were put behind the bits
joined_on : {old now : Writer} {budget left : ℕ} {all : List Bool} (most digits k v l w j x : ℕ) → 255 < digits → digits < 2 ^ most
    → Remains old now budget left all (field k v ++ code_from_run (field most digits)) → field l w ≡ doubled (field 8 (digits % 256)) → field j x ≡ field k v ++ field l w
    → Remains old now budget left all (field j x ++ code_from_run (field (most - 8) (digits / 256)))
joined_on most digits k v l w j x some within remains two joined =
    let run = run_goes_on most digits some within in
    let rest = code_from_run (field (most - 8) (digits / 256)) in
    Remains-same remains (cc (run.2, append_assoc (field k v) (field l w) rest))

pub make_room-left-requires-clause-fits : goal.make_room-left-requires-clause-fits
make_room-left-requires-clause-fits c = room_for _ _ _ (joined_on c.loop-digits.most c.loop-digits.digits _ c.loop-digits.pending.bits _ c.double.result.bits _ c.join-pending.result.bits c.loop-digits-test.true c.loop-digits.invariant.within c.loop-digits.invariant.remains c.double.ensures.bits c.join-pending.ensures.bits)

pub loop-digits-preserved : goal.loop-digits-preserved
loop-digits-preserved c =
    let room = c.make_room-left in
    let run = run_goes_on c.loop-digits.most c.loop-digits.digits c.loop-digits-test.true c.loop-digits.invariant.within in
    let joined = joined_on c.loop-digits.most c.loop-digits.digits _ c.loop-digits.pending.bits _ c.double.result.bits _ c.join-pending.result.bits c.loop-digits-test.true c.loop-digits.invariant.within c.loop-digits.invariant.remains c.double.ensures.bits c.join-pending.ensures.bits in
    record {
      remains = Remains-through _ _ _ joined room.ensures.bits.code;
      some = omega (arith, c.loop-digits-test.true);
      in_word = omega (arith, c.loop-digits.invariant.in_word);
      within = run.1;
      few = omega (arith, room.ensures.room);
      small = room.ensures.bits.small;
    }
