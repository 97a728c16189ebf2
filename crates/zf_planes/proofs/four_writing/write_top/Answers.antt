use Rattle.std.proofs.Common.{rules, [], ◌≡◌, ℕ, ◌-◌, ◌<◌, ◌≤◌, min, max, Bool, true, List, ◌∷◌, ◌++◌, length, map, get_or, ap, ◌∙◌, arith, append-nil, append_assoc, length-append}
use Rattle.zf_spec.{specs.Numbers.{field}, specs.Grid.{upto}, proofs.Fields.{length-field}}
use Rattle.zf_spec.specs.Planes.{code_from, reach_of_all}
use Rattle.zf_bits.specs.Writer.{Writer}
use Rattle.zf_planes.{specs.Fours.{string_planes}, specs.Writes.{Remains}, proofs.Lone.{lone_first}}
use Rattle.zf_planes.specs.Spread.{top_digit, top_planes, lone_planes, lone_code}
use Rattle.zf_planes.proofs.Budgets.{Remains-behind, Remains-same, Remains-fits, Remains-through, Remains-last}
use Rattle.zf_planes.proofs.Strings.{code_from-append, reach_of_string-le, Remains-above, Remains-reached}
use Rattle.zf_planes.proofs.TopPlanes.{below, string-split, top_planes-sizes, no_top_planes}
use Rattle.zf_planes.proofs.four_writing.write_top.Goals.{then-lone-gt0, else-lone-gt0, then-loop-planes-test+else-left-part, else-loop-planes-test}
use Rattle.zf_planes.proofs.four_writing.write_top.Goals as goal

-- behind the bits that were put together remains the code of a string, and then that of the planes below it
next_string : {old now : Writer} {budget left : ℕ} {whole : List Bool} (l v above planes count string : ℕ) (words : List ℕ) → planes ≤ 64 → count ≡ min planes 16 → string_planes 16 string ≡ top_planes 16 words
    → Remains old now budget left whole (field l v ++ code_from above (top_planes planes words))
    → Remains old now budget left whole ((field l v ++ code_from above (string_planes count string)) ++ code_from (max above (reach_of_all (string_planes count string))) (top_planes (planes - count) (map (below 16) words)))
next_string l v above planes count string words most is same remains =
    let rest = code_from (max above (reach_of_all (string_planes count string))) (top_planes (planes - count) (map (below 16) words)) in
    Remains-same remains (cc (
      string-split planes count string words most is same,
      code_from-append above (string_planes count string) (top_planes (planes - count) (map (below 16) words)),
      append_assoc (field l v) (code_from above (string_planes count string)) rest,
    ))

-- ---- planes in which the first rank alone has ones

-- their code is put behind bits
alone : {old now : Writer} {budget left : ℕ} {whole : List Bool} (l v planes m : ℕ) (words : List ℕ) (len bits j x : ℕ) → Remains old now budget left whole (field l v ++ code_from 0 (top_planes planes words)) → planes ≤ 64 → 0 < m → m ≤ planes
    → top_digit (get_or words 0 0) 0 ≡ true → top_planes m words ≡ lone_planes (map (top_digit (get_or words 0 0)) (upto m)) → field len bits ≡ true ∷ lone_code (map (top_digit (get_or words 0 0)) (upto m)) → field j x ≡ field l v ++ field len bits
    → Remains old now budget left whole (field j x ++ code_from 1 (top_planes (planes - m) (map (below m) words)))
alone l v planes m words len bits j x remains most some within first lone is joined =
    Remains-same remains (cc (
      lone_first planes m words some within most first lone,
      is,
      append_assoc (field l v) (field len bits) (code_from 1 (top_planes (planes - m) (map (below m) words))),
      joined,
    ))

pub loop-planes-init : goal.loop-planes-init
loop-planes-init c =
    let lone = c.count_of_lone-lone in
    let start = Remains-behind c.args.out.now c.args.left c.args.part.len c.args.part.bits (code_from 0 (top_planes c.args.planes c.args.words)) c.requires.fits in
    elim c.if-lone-gt0.branch [
      | then-lone-gt0 w ↦
          let code = w.code_of_lone in
          let room = w.make_room-left in
          let joined = w.join-part in
          let part = room.new.part in
          let through = Remains-through (field c.args.part.len c.args.part.bits) (field part.len part.bits) (code_from 0 (top_planes c.args.planes c.args.words)) start room.ensures.bits.code in
          let remains = alone part.len part.bits c.args.planes lone.result c.args.words code.result.len code.result.bits joined.result.len joined.result.bits through c.requires.planes w.if-lone-gt0.true lone.ensures.most (lone.ensures.first w.if-lone-gt0.true) lone.ensures.lone code.ensures.bits joined.ensures.bits in
          rw (w.out-is, w.left-is, w.planes-is, w.words-is, w.above-is) (search rules)
      | else-lone-gt0 w ↦
          rw (w.out-is, w.left-is, w.planes-is, w.words-is, w.above-is) (search rules)
    ]

-- ---- the strings

pub write_string-left-requires-clause-fits : goal.write_string-left-requires-clause-fits
write_string-left-requires-clause-fits c =
    let now = c.loop-planes in
    let bits = field now.part.len now.part.bits in
    let code = code_from now.above (string_planes c.min-count.result c.string_of-string.result) in
    let fits : min now.left (length (bits ++ code)) ≤ now.out.room =
    Remains-fits (bits ++ code) _ (next_string now.part.len now.part.bits now.above now.planes c.min-count.result c.string_of-string.result now.words now.invariant.few c.min-count.ensures c.string_of-string.ensures now.invariant.remains) in
    omega (arith, fits, length-append bits code, length-field now.part.len now.part.bits)

pub loop-planes-preserved : goal.loop-planes-preserved
loop-planes-preserved c =
    let now = c.loop-planes in
    let part = c.write_string-left.new.part in
    let leaves = c.write_string-left.ensures.bits in
    let count = c.min-count.result in
    let string = c.string_of-string.result in
    let words = c.below_top-words-in-loop-planes in
    let top = max now.above (reach_of_all (string_planes count string)) in
    let remains = next_string now.part.len now.part.bits now.above now.planes count string now.words now.invariant.few c.min-count.ensures c.string_of-string.ensures now.invariant.remains in
    let through = Remains-through (field now.part.len now.part.bits ++ code_from now.above (string_planes count string)) (field part.len part.bits) (code_from top (top_planes (now.planes - count) (map (below 16) now.words))) remains leaves.code in
    record {
      remains = Remains-above part.len part.bits c.write_string-left.new.above top (top_planes (now.planes - count) words.result) leaves.reached leaves.within (omega (arith, now.invariant.above, reach_of_string-le count string)) (top_planes-sizes (now.planes - count) words.result (omega arith)) (rw (← words.ensures) at through);
      above = leaves.within;
      few = omega (arith, now.invariant.few);
      in_word = leaves.len;
      small = λ some. let all : count ≡ 16 = omega (arith, c.min-count.ensures, some) in c.write_string-left.ensures.small (rw all (omega arith));
    }

-- ---- the end

-- only the bits that were put together remain
ended : (c : goal.After-write_part-arg-1) → Remains c.args.out.now c.loop-planes.out c.args.left c.loop-planes.left (field c.args.part.len c.args.part.bits ++ code_from 0 (top_planes c.args.planes c.args.words)) (field c.loop-planes.part.len c.loop-planes.part.bits)
ended c =
    let now = c.loop-planes in
    let bits = field now.part.len now.part.bits in
    elim c.loop-planes-test.branch [
      | then-loop-planes-test+else-left-part w ↦ Remains-same (Remains-reached now.part.len now.part.bits (code_from now.above (top_planes now.planes now.words)) [] (omega (arith, w.if-left-part.false)) now.invariant.remains) (append-nil bits)
      | else-loop-planes-test w ↦
          let none = ap (code_from now.above) (no_top_planes now.planes now.words w.loop-planes-test.false) in
          Remains-same now.invariant.remains (ap (λ (bs : List Bool). bits ++ bs) none ∙ append-nil bits)
    ]

pub write_part-requires-clause-fits : goal.write_part-requires-clause-fits
write_part-requires-clause-fits c = omega (arith, (ended c).fits, length-field c.loop-planes.part.len c.loop-planes.part.bits)

pub returns : goal.returns
returns c = Remains-last _ _ (ended c.before) c.write_part.ensures.bits c.write_part.ensures.left
