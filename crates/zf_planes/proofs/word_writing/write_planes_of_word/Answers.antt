use Rattle.std.proofs.Common.{rules, [], get_or, refl, ◌<◌, ◌≤◌, ◌≡◌, ℕ, ◌+◌, ◌-◌, max, min, Bool, List, ◌++◌, length, map, take, drop, sym, ap, ◌∙◌, arith, append_assoc, length-append}
use Rattle.std.proofs.lemmas.List.{drop_all, length-map}
use Rattle.zf_spec.{specs.Numbers.{field}, proofs.Reach.{reach-le}, proofs.Fields.{length-field}}
use Rattle.zf_spec.{specs.Planes.{plane_code, code_from, reach}, specs.HeldPlanes.{digits_held, planes_held}}
use Rattle.zf_planes.proofs.Budgets.{Remains-through, Remains-same, Remains-fits, Remains-part, Remains-end, room_for}
use Rattle.zf_planes.{proofs.Unpacking.{length-top_held, next_word}, specs.Writes.{Remains, LeavesPart}}
use Rattle.zf_planes.{proofs.Strings.{Remains-cut}, proofs.Doubled.{plane_whole}}
use Rattle.zf_planes.proofs.word_writing.write_planes_of_word.Given.{Over}
use Rattle.zf_planes.proofs.word_writing.write_planes_of_word.Goals.{then-loop-i-test+else-left-part, else-loop-i-test, then-loop-i-test+then-left-part+else-size-le32+else-rest-eq0+then-above-size-2, then-loop-i-test+then-left-part+then-size-le32+then-rest-lt256+then-above-size, then-loop-i-3-test+else-whole-size-le64, else-loop-i-3-test}
use Rattle.zf_bits.specs.Writer.{Writer}
use Rattle.zf_planes.proofs.word_writing.write_planes_of_word.Goals as goal

-- the code of the next plane, by another name, is behind the bits that were put together
next_as : {A : Type 0} {old now : Writer} {budget left : ℕ} {whole : List Bool} (words : A → List ℕ) (above prec size i len bits digits : ℕ) (planes : List A) (plane : A) (code : List Bool)
    → Remains old now budget left whole (field len bits ++ code_from above (drop i (take prec (planes_held size (map words planes)))))
    → plane ≡ get_or planes (length planes - 1 - i) plane → i < prec → prec ≤ length planes → field size digits ≡ digits_held size (words plane) → plane_code above (field size digits) ≡ code
    → Remains old now budget left whole ((field len bits ++ code) ++ code_from (max above (reach (field size digits))) (drop (i + 1) (take prec (planes_held size (map words planes)))))
next_as words above prec size i len bits digits planes plane code remains is below within same named =
    let rest = code_from (max above (reach (field size digits))) (drop (i + 1) (take prec (planes_held size (map words planes)))) in
    Remains-same (next_word words above prec size i len bits digits planes plane remains is below within same) (cc (named, append_assoc (field len bits) code rest))

-- there is room for it
next_fits : {old now : Writer} {budget left : ℕ} {whole : List Bool} (len bits : ℕ) (code rest : List Bool) → Remains old now budget left whole ((field len bits ++ code) ++ rest) → min left (len + length code) ≤ now.room
next_fits len bits code rest remains = omega (arith, Remains-fits (field len bits ++ code) rest remains, length-append (field len bits) code, length-field len bits)

-- and it is put behind them
with_next : {A : Type 0} {old now new : Writer} {budget left after : ℕ} {whole : List Bool} (words : A → List ℕ) (above prec size i len bits digits l v top : ℕ) (planes : List A) (plane : A) (code : List Bool)
    → Remains old now budget left whole (field len bits ++ code_from above (drop i (take prec (planes_held size (map words planes)))))
    → plane ≡ get_or planes (length planes - 1 - i) plane → i < prec → prec ≤ length planes → field size digits ≡ digits_held size (words plane) → plane_code above (field size digits) ≡ code
    → LeavesPart left after now new (field len bits ++ code) l v → max above (reach (field size digits)) ≡ top
    → Remains old new budget after whole (field l v ++ code_from top (drop (i + 1) (take prec (planes_held size (map words planes)))))
with_next words above prec size i len bits digits l v top planes plane code remains is below within same named leaves reached =
    let rest = drop (i + 1) (take prec (planes_held size (map words planes))) in
    let next = next_as words above prec size i len bits digits planes plane code remains is below within same named in
    Remains-same
    (Remains-through (field len bits ++ code) (field l v) _ next leaves.code)
    (ap (λ n. field l v ++ code_from n rest) reached)

-- ---- a plane that brings no new rank

pub put_behind-left-requires-then-rest-eq0-clause-fits : goal.put_behind-left-requires-then-rest-eq0-clause-fits
put_behind-left-requires-then-rest-eq0-clause-fits g c =
    let part = c.loop-i.part in
    let more = c.plain_plane-more.result in
    let code = field more.len more.bits in
    let next = next_as g.P.Plane.words c.loop-i.above c.args.prec c.args.size c.loop-i.i part.len part.bits c.first_word-digits.result c.args.planes.now c.index-planes-planes.result code c.loop-i.invariant.remains
    c.index-planes-planes.is c.loop-i-test.true c.requires.planes c.first_word-digits.ensures.digits c.plain_plane-more.ensures.code in
    omega (arith, next_fits part.len part.bits code _ next, length-field more.len more.bits)

pub loop-i-preserved-then-rest-eq0 : goal.loop-i-preserved-then-rest-eq0
loop-i-preserved-then-rest-eq0 g c =
    record {
      remains = search (rules, with_next);
      above = c.loop-i.invariant.above;
      place = omega (arith, c.loop-i-test.true);
      small = c.put_behind-left-then-rest-eq0.ensures.small;
      in_word = c.put_behind-left-then-rest-eq0.ensures.len;
    }

-- ---- one whose new ranks are among the next eight

pub put_behind-left-requires-clause-fits : goal.put_behind-left-requires-clause-fits
put_behind-left-requires-clause-fits g c =
    let part = c.loop-i.part in
    let plane = c.short_plane-plane in
    let code = field plane.result.part.len plane.result.part.bits in
    let inner : plane.result.above < c.args.size = omega (arith, plane.ensures.least c.args.size (omega (arith, c.loop-i.invariant.above)) c.first_word-digits.ensures.small, c.if-above-size.false) in
    let next = next_as g.P.Plane.words c.loop-i.above c.args.prec c.args.size c.loop-i.i part.len part.bits c.first_word-digits.result c.args.planes.now c.index-planes-planes.result code c.loop-i.invariant.remains
    c.index-planes-planes.is c.loop-i-test.true c.requires.planes c.first_word-digits.ensures.digits (plane.ensures.whole c.args.size inner) in
    omega (arith, next_fits part.len part.bits code _ next, length-field plane.result.part.len plane.result.part.bits)

pub loop-i-preserved-then-rest-lt256 : goal.loop-i-preserved-then-rest-lt256
loop-i-preserved-then-rest-lt256 g c =
    let plane = c.short_plane-plane in
    let inner : plane.result.above < c.args.size = omega (arith, plane.ensures.least c.args.size (omega (arith, c.loop-i.invariant.above)) c.first_word-digits.ensures.small, c.if-above-size.false) in
    let reached = plane.ensures.reached c.args.size (omega (arith, inner)) in
    let code = plane.ensures.whole c.args.size inner in
    record {
      remains = search (rules, with_next);
      above = inner;
      place = omega (arith, c.loop-i-test.true);
      small = c.put_behind-left.ensures.small;
      in_word = c.put_behind-left.ensures.len;
    }

-- ---- any other that brings a new rank

pub write_with-left-requires-clause-fits : goal.write_with-left-requires-clause-fits
write_with-left-requires-clause-fits g c =
    let part = c.loop-i.part in
    let code = plane_code c.loop-i.above (field c.args.size c.first_word-digits.result) in
    next_fits part.len part.bits code _ (next_as g.P.Plane.words c.loop-i.above c.args.prec c.args.size c.loop-i.i part.len part.bits c.first_word-digits.result c.args.planes.now c.index-planes-planes.result code c.loop-i.invariant.remains
    c.index-planes-planes.is c.loop-i-test.true c.requires.planes c.first_word-digits.ensures.digits refl)

pub loop-i-preserved : goal.loop-i-preserved
loop-i-preserved g c =
    let ds = field c.args.size c.first_word-digits.result in
    let top : c.max-above.result ≡ max c.loop-i.above c.reach_in-end.result = omega (arith, c.max-above.ensures) in
    let reached : max c.loop-i.above (reach ds) ≡ c.max-above.result = omega (arith, ap reach c.first_word-digits.ensures.digits, c.reach_in-end.ensures.value, top) in
    record {
      remains = search (rules, with_next);
      above = omega (arith, c.loop-i.invariant.above, c.reach_in-end.ensures.bound, top, c.if-above-size-2.false);
      place = omega (arith, c.loop-i-test.true);
      small = c.write_with-left.ensures.small;
      in_word = c.write_with-left.ensures.len;
    }

-- ---- the planes behind, as they are

-- however the first loop ends, what it has put together and the planes behind remain
ended : (g : Over) (c : goal.After-write_part-arg-2-1 g) → Remains c.args.out.now c.loop-i-test.out c.args.left c.loop-i-test.left (code_from 0 (drop c.args.from (take c.args.prec (planes_held c.args.size (map g.P.Plane.words c.args.planes.now)))))
    (field c.loop-i-test.part.len c.loop-i-test.part.bits ++ code_from c.loop-i-test.above (drop c.loop-i-test.i (take c.args.prec (planes_held c.args.size (map g.P.Plane.words c.args.planes.now)))))
ended g c = elim c.loop-i-test.branch [
  | then-loop-i-test+else-left-part w ↦ rw (w.out-is, w.left-is, w.part-is, w.above-is, w.i-is) c.loop-i.invariant.remains
  | else-loop-i-test w ↦ rw (w.out-is, w.left-is, w.part-is, w.above-is, w.i-is) c.loop-i.invariant.remains
  | then-loop-i-test+then-left-part+else-size-le32+else-rest-eq0+then-above-size-2 w ↦
      let part = c.loop-i.part in
      let ds = field c.args.size w.first_word-digits.result in
      let new = w.write_with-left.new.part in
      let top : w.max-above.result ≡ max c.loop-i.above w.reach_in-end.result = omega (arith, w.max-above.ensures) in
      let reached : max c.loop-i.above (reach ds) ≡ w.max-above.result = omega (arith, ap reach w.first_word-digits.ensures.digits, w.reach_in-end.ensures.value, top) in
      rw (w.out-is, w.left-is, w.part-is, w.above-is, w.i-is)
      (with_next g.P.Plane.words c.loop-i.above c.args.prec c.args.size c.loop-i.i part.len part.bits w.first_word-digits.result new.len new.bits w.max-above.result c.args.planes.now w.index-planes-planes.result (plane_code c.loop-i.above ds)
      c.loop-i.invariant.remains w.index-planes-planes.is w.loop-i-test.true c.requires.planes w.first_word-digits.ensures.digits refl w.write_with-left.ensures reached)
  | then-loop-i-test+then-left-part+then-size-le32+then-rest-lt256+then-above-size w ↦
      let part = c.loop-i.part in
      let plane = w.short_plane-plane in
      let size = w.if-above-size.true in
      let rest = drop (c.loop-i.i + 1) (take c.args.prec (planes_held c.args.size (map g.P.Plane.words c.args.planes.now))) in
      let last : plane_code c.loop-i.above (field c.args.size w.first_word-digits.result) ≡ field (plane.result.part.len - 2) plane.result.part.bits = rw size at (plane.ensures.last (omega (arith, c.loop-i.invariant.above, size))) in
      let next = next_word g.P.Plane.words c.loop-i.above c.args.prec c.args.size c.loop-i.i part.len part.bits w.first_word-digits.result c.args.planes.now w.index-planes-planes.result c.loop-i.invariant.remains
      w.index-planes-planes.is w.loop-i-test.true c.requires.planes w.first_word-digits.ensures.digits in
      rw (w.out-is, w.left-is, w.part-is, w.above-is, w.i-is)
      (Remains-same (Remains-part part.len part.bits _ next w.write_part-left.ensures.bits w.write_part-left.ensures.left) (cc (last, plane.ensures.reached c.args.size (omega (arith, size)))))
]

pub write_part-left-requires-2-clause-in_word : goal.write_part-left-requires-2-clause-in_word
write_part-left-requires-2-clause-in_word g c =
    search (rules, then-loop-i-test+else-left-part, else-loop-i-test, then-loop-i-test+then-left-part+else-size-le32+else-rest-eq0+then-above-size-2, then-loop-i-test+then-left-part+then-size-le32+then-rest-lt256+then-above-size)

pub write_part-left-requires-2-clause-fits : goal.write_part-left-requires-2-clause-fits
write_part-left-requires-2-clause-fits g c = room_for c.loop-i-test.part.len c.loop-i-test.part.bits _ (ended g c)

-- no plane is left
none_left : {A : Type 0} (words : A → List ℕ) (n prec size i : ℕ) (planes : List A) → prec ≤ length planes → prec ≤ i → code_from n (drop i (take prec (planes_held size (map words planes)))) ≡ []
none_left words n prec size i planes within past = search (rules, length-map, drop_all, length-top_held)

-- it is written
written : (g : Over) (c : goal.After-write_part-left-2 g) → Remains c.args.out.now c.write_part-left-2.new.out c.args.left c.write_part-left-2.result (code_from 0 (drop c.args.from (take c.args.prec (planes_held c.args.size (map g.P.Plane.words c.args.planes.now)))))
    (code_from c.loop-i-test.above (drop c.loop-i-test.i (take c.args.prec (planes_held c.args.size (map g.P.Plane.words c.args.planes.now)))))
written g c = Remains-part c.loop-i-test.part.len c.loop-i-test.part.bits _ (ended g c.before) c.write_part-left-2.ensures.bits c.write_part-left-2.ensures.left

-- and all ranks have had a one, or nothing is left to write
behind : (g : Over) (c : goal.After-write_part-left-2 g) → Remains c.args.out.now c.write_part-left-2.new.out c.args.left c.write_part-left-2.result (code_from 0 (drop c.args.from (take c.args.prec (planes_held c.args.size (map g.P.Plane.words c.args.planes.now)))))
    (code_from c.args.size (drop c.loop-i-test.i (take c.args.prec (planes_held c.args.size (map g.P.Plane.words c.args.planes.now)))))
behind g c = elim c.loop-i-test.branch [
  | then-loop-i-test+else-left-part w ↦
      let none : c.write_part-left-2.result ≡ 0 = omega (arith, c.write_part-left-2.ensures.left, w.if-left-part.false, w.left-is, ap (λ p. p.len) w.part-is) in
      Remains-cut _ _ (rw none refl) (written g c)
  | else-loop-i-test w ↦
      let past : c.args.prec ≤ c.loop-i-test.i = omega (arith, w.loop-i-test.false, w.i-is) in
      Remains-same (written g c)
      (none_left g.P.Plane.words c.loop-i-test.above c.args.prec c.args.size c.loop-i-test.i c.args.planes.now c.requires.planes past
      ∙ sym (none_left g.P.Plane.words c.args.size c.args.prec c.args.size c.loop-i-test.i c.args.planes.now c.requires.planes past))
  | then-loop-i-test+then-left-part+else-size-le32+else-rest-eq0+then-above-size-2 w ↦
      Remains-same (written g c) (ap (λ n. code_from n (drop c.loop-i-test.i (take c.args.prec (planes_held c.args.size (map g.P.Plane.words c.args.planes.now))))) (w.above-is ∙ w.if-above-size-2.true))
  | then-loop-i-test+then-left-part+then-size-le32+then-rest-lt256+then-above-size w ↦
      Remains-same (written g c) (ap (λ n. code_from n (drop c.loop-i-test.i (take c.args.prec (planes_held c.args.size (map g.P.Plane.words c.args.planes.now))))) (w.above-is ∙ w.if-above-size.true))
]

place : (g : Over) (c : goal.After-write_part-left-2 g) → c.loop-i-test.i ≤ c.args.prec
place g c =
    search (rules, then-loop-i-test+else-left-part, else-loop-i-test, then-loop-i-test+then-left-part+else-size-le32+else-rest-eq0+then-above-size-2, then-loop-i-test+then-left-part+then-size-le32+then-rest-lt256+then-above-size)

pub loop-i-2-init : goal.loop-i-2-init
loop-i-2-init g c = record { remains = behind g c; place = place g c }

pub loop-i-3-preserved : goal.loop-i-3-preserved
loop-i-3-preserved g c =
    let words = g.P.Plane.words in
    let size = c.args.size in
    let now = c.loop-i-3 in
    let v = c.first_word-bits.result in
    let joined = c.join-whole in
    let rest = drop (now.i + 1) (take c.args.prec (planes_held size (map words c.args.planes.now))) in
    let next = next_word words size c.args.prec size now.i now.whole.len now.whole.bits v c.args.planes.now c.index-planes-planes-in-loop-i-3.result now.invariant.remains
    c.index-planes-planes-in-loop-i-3.is c.loop-i-3-test.true c.requires.planes c.first_word-bits.ensures.digits in
    let all : max size (reach (field size v)) ≡ size = omega (arith, reach-le (field size v), length-field size v) in
    record {
      remains = Remains-same next (cc (
        plane_whole size v,
        all,
        joined.ensures.bits,
        append_assoc (field now.whole.len now.whole.bits) (field size v) (code_from size rest),
      ));
      place = omega (arith, c.loop-i-3-test.true);
      small = joined.ensures.small c.first_word-bits.ensures.small;
      in_word = omega (arith, joined.ensures.len, c.if-whole-size-le64.true);
      some = omega (arith, joined.ensures.len, now.invariant.some, now.invariant.on, c.requires.size);
      on = omega (arith, now.invariant.on);
    }

pub loop-i-2-smaller : goal.loop-i-2-smaller
loop-i-2-smaller g c = search (rules, then-loop-i-3-test+else-whole-size-le64, else-loop-i-3-test)

pub loop-i-2-preserved : goal.loop-i-2-preserved
loop-i-2-preserved g c = record { remains = Remains-part c.loop-i-3.whole.len c.loop-i-3.whole.bits _ c.loop-i-3.invariant.remains c.write_part-left-in-loop-i-2.ensures.bits c.write_part-left-in-loop-i-2.ensures.left; place = c.loop-i-3.invariant.place }

pub returns-after-loop-i-2 : goal.returns-after-loop-i-2
returns-after-loop-i-2 g c =
    let none = ap length (none_left g.P.Plane.words c.args.size c.args.prec c.args.size c.loop-i-2.i c.args.planes.now c.requires.planes c.loop-i-2-test.false) in
    record { bits = Remains-end c.loop-i-2.invariant.remains (omega (arith, none)); left = omega (arith, none, c.loop-i-2.invariant.remains.spent) }
