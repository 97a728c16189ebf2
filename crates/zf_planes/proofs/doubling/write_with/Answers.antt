use Rattle.std.proofs.Common.{rules, ◌≡◌, ℕ, ◌+◌, ◌-◌, ◌*◌, ◌/◌, ◌%◌, ◌^◌, ◌<◌, ◌≤◌, min, true, [], ◌∷◌, ◌++◌, length, sym, arith, append_assoc, append-nil, length-append}
use Rattle.std.proofs.lemmas.Nat.{one_shl}
use Rattle.zf_spec.{specs.Numbers.{field}, specs.Planes.{code_from_run, plane_code}}
use Rattle.zf_spec.proofs.Fields.{length-field, field-mod}
use Rattle.zf_bits.specs.Writer.{Writer}
use Rattle.zf_planes.{specs.Writes.{Remains}, proofs.Doubled.{plane_with, rest_small}}
use Rattle.zf_planes.proofs.Budgets.{Remains-behind, Remains-same, Remains-through, room_for}
use Rattle.zf_planes.proofs.doubling.write_with.Goals as goal

-- the digits below n of a word
low_digits : (n v : ℕ) → n < 64 → field n (v % (1 * 2 ^ n % 2 ^ 64)) ≡ field n v
low_digits n v small = search (rules, one_shl, field-mod)

-- the first digits stand behind the bits
begun : {old mid : Writer} (left after size n v k a l w j b : ℕ) → n < size → size ≤ 64 → 0 < v / 2 ^ n → v < 2 ^ size → min left (k + length (plane_code n (field size v))) ≤ old.room
    → Remains old mid left after (field k a) (field l w) → field j b ≡ field l w ++ field n (v % (1 * 2 ^ n % 2 ^ 64))
    → Remains old mid left after (field k a ++ plane_code n (field size v)) (field j b ++ true ∷ code_from_run (field (size - n) (v / 2 ^ n)))
begun {old} left after size n v k a l w j b within narrow some small fits leaves joined =
    let code = plane_code n (field size v) in
    let run = code_from_run (field (size - n) (v / 2 ^ n)) in
    Remains-same (Remains-through (field k a) (field l w) code (Remains-behind old left k a code fits) leaves)
    (cc (plane_with size n v (omega arith) some small, low_digits n v (omega arith), joined, append_assoc (field l w) (field n v) (true ∷ run)))

digits_put : (c : goal.After-make_room-arg-4-1) → Remains c.args.out.now c.make_room-left.new.out c.args.left c.make_room-left.result (field c.args.part.now.len c.args.part.now.bits ++ plane_code c.args.n (field c.args.size c.args.digits))
    (field c.join.result.len c.join.result.bits ++ true ∷ code_from_run (field (c.args.size - c.args.n) (c.args.digits / 2 ^ c.args.n)))
digits_put c =
    let old = c.make_room-left.new.part in
    begun c.args.left c.make_room-left.result c.args.size c.args.n c.args.digits c.args.part.now.len c.args.part.now.bits old.len old.bits c.join.result.len c.join.result.bits
    c.requires.in_plane c.requires.size c.requires.some c.requires.digits c.requires.fits c.make_room-left.ensures.bits.code c.join.ensures.bits

-- and a group bit behind them
group_put : (c : goal.After-write_run-arg-2-1) → Remains c.args.out.now c.make_room-left-2.new.out c.args.left c.make_room-left-2.result (field c.args.part.now.len c.args.part.now.bits ++ plane_code c.args.n (field c.args.size c.args.digits))
    (field c.join-2.result.len c.join-2.result.bits ++ code_from_run (field (c.args.size - c.args.n) (c.args.digits / 2 ^ c.args.n)))
group_put c =
    let old = c.make_room-left-2.new.part in
    let run = code_from_run (field (c.args.size - c.args.n) (c.args.digits / 2 ^ c.args.n)) in
    Remains-same (Remains-through (field c.join.result.len c.join.result.bits) (field old.len old.bits) (true ∷ run) (digits_put c.before.before.before.before.before) c.make_room-left-2.ensures.bits.code)
    (cc (c.join-2.ensures.bits, append_assoc (field old.len old.bits) (true ∷ []) run))

pub make_room-left-requires-2-clause-fits : goal.make_room-left-requires-2-clause-fits
make_room-left-requires-2-clause-fits c = room_for _ _ _ (digits_put c)

pub write_run-requires-clause-within : goal.write_run-requires-clause-within
write_run-requires-clause-within c = rest_small c.args.size c.args.n c.args.digits (omega (arith, c.requires.in_plane)) c.requires.digits

pub write_run-requires-clause-fits : goal.write_run-requires-clause-fits
write_run-requires-clause-fits c =
    let run = code_from_run (field (c.args.size - c.args.n) (c.args.digits / 2 ^ c.args.n)) in
    let part = c.join-2.result in
    omega (arith, (group_put c).fits, length-append (field part.len part.bits) run, length-field part.len part.bits)

pub returns : goal.returns
returns c =
    let run = code_from_run (field (c.args.size - c.args.n) (c.args.digits / 2 ^ c.args.n)) in
    let part = c.join-2.result in
    let new = c.write_run.new.part in
    let all = field part.len part.bits ++ run in
    record {
      code = Remains-same (Remains-through all (field new.len new.bits) [] (Remains-same (group_put c.before) (sym (append-nil all))) c.write_run.ensures.code) (append-nil (field new.len new.bits));
      small = c.write_run.ensures.small;
      len = c.write_run.ensures.len;
    }
