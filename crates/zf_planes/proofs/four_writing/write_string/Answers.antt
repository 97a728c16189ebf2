use Rattle.std.proofs.Common.{rules, ◌≡◌, ◌+◌, ◌-◌, ◌*◌, ◌/◌, ◌^◌, ◌<◌, ◌≤◌, min, Bool, List, [], ◌++◌, sym, ap, ◌∙◌, arith, append_assoc, append-nil}
use Rattle.zf_spec.{specs.Numbers.{field}, specs.Planes.{code_from}}
use Rattle.zf_planes.{specs.Fours.{string_planes}, specs.Writes.{Remains}}
use Rattle.zf_planes.proofs.Budgets.{Remains-behind, Remains-same, Remains-through}
use Rattle.zf_planes.proofs.Strings.{own_string, string_end, string_small, Remains-reached, Remains-word}
use Rattle.zf_planes.proofs.Gathering.{small_behind}
use Rattle.zf_planes.proofs.four_writing.write_string.Goals.{then-loop-planes-test+then-left-part+else-above-lt3, then-loop-planes-test+else-left-part, else-loop-planes-test, then-left-gt64, else-left-gt64, else-planes-gt0-via-then-planes-gt0+else-left-part-2, else-planes-gt0-via-else-planes-gt0}
use Rattle.zf_planes.proofs.four_writing.write_string.Goals as goal

pub loop-planes-init : goal.loop-planes-init
loop-planes-init c = search (rules, Remains-behind)

-- ---- the next planes

pub loop-planes-preserved : goal.loop-planes-preserved
loop-planes-preserved c =
    let now = c.loop-planes in
    let room = c.make_room-left in
    let next = c.code_of_next-next in
    let part = next.result.part in
    let kept = field room.new.part.len room.new.part.bits in
    let count : c.saturating_sub-planes.result ≡ now.planes - 2 = omega (arith, c.saturating_sub-planes.ensures) in
    let rest = code_from next.result.above (string_planes (now.planes - 2) (now.string / 256)) in
    let through = Remains-through (field now.part.len now.part.bits) kept (code_from now.above (string_planes now.planes now.string)) now.invariant.remains room.ensures.bits.code in
    record {
      remains = Remains-same through (cc (next.ensures.bits, append_assoc kept (field part.len part.bits) rest, c.join.ensures.bits, count));
      reached = rw count (now.invariant.reached ∙ next.ensures.reached);
      above = next.result.within;
      few = omega (arith, count, now.invariant.few);
      in_word = omega (arith, c.join.ensures.len, next.ensures.len, room.ensures.room);
      small = c.join.ensures.small next.ensures.small;
      no_more = λ small. rw count (string_small now.planes now.string (omega (arith, c.loop-planes-test.true)) (now.invariant.no_more small));
    }

-- ---- three ranks have had a one

-- the loop has ended since these ranks have had a one
three : (c : goal.Joined-left-gt64) → 3 ≤ c.loop-planes.above
three c =
    search (rules, then-loop-planes-test+then-left-part+else-above-lt3, then-loop-planes-test+else-left-part, else-loop-planes-test)

-- behind the bits that were put together the digits of the planes that are left remain, as far as they count in a word
pub record Behind (c : goal.Joined-left-gt64) : Type 0 where
  pub code : Remains c.args.out.now c.if-left-gt64.out c.args.left c.if-left-gt64.left (field c.args.part.now.len c.args.part.now.bits ++ code_from c.args.above.now (string_planes c.args.planes c.args.string))
      (field c.if-left-gt64.part.len c.if-left-gt64.part.bits ++ field (4 * c.from-own.result) c.loop-planes.string)
  pub short : c.if-left-gt64.part.len < 64
  pub within : min c.if-left-gt64.left (c.if-left-gt64.part.len + 4 * c.from-own.result) ≤ 64
  pub small : c.if-left-gt64.part.bits < 2 ^ c.if-left-gt64.part.len

behind : (c : goal.Joined-left-gt64) → Behind c
behind c =
    let now = c.loop-planes in
    let bits = field now.part.len now.part.bits in
    let len = 4 * c.from-own.result in
    let own : code_from now.above (string_planes now.planes now.string) ≡ field len now.string =
    own_string now.above now.planes now.string (three c) now.invariant.above ∙ ap (λ n. field (4 * n) now.string) (sym c.from-own.ensures) in
    let remains = Remains-same now.invariant.remains (ap (λ (bs : List Bool). bits ++ bs) own) in
    elim c.if-left-gt64.branch [
      | then-left-gt64 w ↦
          let room = w.make_room-left-then-left-gt64 in
          record {
            code = rw (w.part-is, w.out-is, w.left-is) (Remains-through bits (field room.new.part.len room.new.part.bits) (field len now.string) remains room.ensures.bits.code);
            short = rw w.part-is (omega (arith, room.ensures.room, c.from-own.ensures, c.if-planes-gt0.true));
            within = rw (w.part-is, w.left-is) (omega (arith, room.ensures.room));
            small = rw w.part-is room.ensures.bits.small;
          }
      | else-left-gt64 w ↦
          record {
            code = rw (w.part-is, w.out-is, w.left-is) remains;
            short = rw w.part-is (omega (arith, w.if-left-gt64.false, c.if-left-part-2.true));
            within = rw (w.part-is, w.left-is) (omega (arith, w.if-left-gt64.false));
            small = rw w.part-is now.invariant.small;
          }
    ]

pub overflow_shl-bits : goal.overflow_shl-bits
overflow_shl-bits c = (behind c).short

pub returns-after-left-gt64-clause-bits : goal.returns-after-left-gt64-clause-bits
returns-after-left-gt64-clause-bits c =
    let known = behind c in
    let part = c.if-left-gt64.part in
    record {
      code = Remains-word part.len (4 * c.from-own.result) part.bits c.loop-planes.string known.short known.within known.small known.code;
      len = known.within;
      within = c.loop-planes.invariant.above;
      reached = λ some. omega (arith, three c, c.loop-planes.invariant.reached);
    }

pub returns-after-left-gt64-clause-small : goal.returns-after-left-gt64-clause-small
returns-after-left-gt64-clause-small c = λ small.
    let count : 4 * c.from-own.result ≡ 4 * c.loop-planes.planes = omega (arith, c.from-own.ensures) in
    small_behind c.if-left-gt64.part.len (4 * c.from-own.result) c.if-left-gt64.part.bits c.loop-planes.string (behind c).small (rw count (c.loop-planes.invariant.no_more small))

-- ---- no plane is left, or no bit behind those that were put together

pub returns-else-planes-gt0-clause-bits : goal.returns-else-planes-gt0-clause-bits
returns-else-planes-gt0-clause-bits c =
    let now = c.loop-planes in
    let bits = field now.part.len now.part.bits in
    elim c.else-planes-gt0.branch [
      | else-planes-gt0-via-then-planes-gt0+else-left-part-2 w ↦ record {
        code = Remains-same (Remains-reached now.part.len now.part.bits _ [] (omega (arith, w.if-left-part-2.false)) now.invariant.remains) (append-nil bits);
        len = omega (arith, now.invariant.in_word);
        within = now.invariant.above;
        reached = λ some. absurd (omega (arith, w.if-left-part-2.false, some));
      }
      | else-planes-gt0-via-else-planes-gt0 w ↦
          let none = string_end now.planes now.above now.string w.if-planes-gt0.false in
          record {
            code = Remains-same now.invariant.remains (ap (λ (bs : List Bool). bits ++ bs) none.0 ∙ append-nil bits);
            len = omega (arith, now.invariant.in_word);
            within = now.invariant.above;
            reached = λ some. omega (arith, now.invariant.reached, none.1);
          }
    ]
