use Rattle.std.proofs.Common.{rules, ◌≡◌, ℕ, ◌+◌, ◌-◌, ◌*◌, ◌<◌, ◌≤◌, ◌⊎◌, ⊎_elim, min, max, Bool, false, List, ◌++◌, length, map, take, drop, get_or, replicate, refl, sym, ap, ◌∙◌, arith}
use Rattle.std.proofs.lemmas.List.{drop_all, length-map, take-take, take-append-drop, length-replicate}
use Rattle.zf_spec.{specs.Planes.{code, code_from, plane_code, reach}}
use Rattle.zf_spec.{specs.HeldPlanes.{planes_held, digits_held}}
use Rattle.zf_bits.{specs.Writer.{Writer, Appends}, proofs.Appending.{Appends-same}}
use Rattle.zf_planes.{specs.Writes.{Remains}, proofs.Lengths.{length-code_words-le}}
use Rattle.zf_planes.proofs.Budgets.{Remains-start, Remains-same, Remains-fits, Remains-more, Remains-all, Remains-end}
use Rattle.zf_planes.{proofs.Zeros.{take_zeros, zero_code}, proofs.encoding.write_planes_below.Given.{Over}}
use Rattle.zf_planes.proofs.Unpacking.{length-top_held, code_next}
use Rattle.zf_planes.proofs.encoding.write_planes_below.Goals.{After-write_zeros_reserved, then-loop-i-test+else-left-gt0, else-loop-i-test}
use Rattle.zf_planes.proofs.encoding.write_planes_below.Goals as goal

-- what remains begins with the code of the next plane
next_plane : {A : Type 0} {old now : Writer} {budget left : ℕ} {whole : List Bool} (words : A → List ℕ) (above prec size i : ℕ) (planes : List A) (plane : A)
    → Remains old now budget left whole (code_from above (drop i (take prec (planes_held size (map words planes)))))
    → plane ≡ get_or planes (length planes - 1 - i) plane → i < prec → prec ≤ length planes
    → Remains old now budget left whole (plane_code above (digits_held size (words plane)) ++ code_from (max above (reach (digits_held size (words plane)))) (drop (i + 1) (take prec (planes_held size (map words planes)))))
next_plane words above prec size i planes plane remains is below within = Remains-same remains (code_next words above prec size i planes plane is below within)

-- the code of all planes remains to be written, of which the first k have no one
remains_all : {A : Type 0} (out : Writer) (words : A → List ℕ) (count budget prec size k : ℕ) (planes : List A) → ((plane : A) → length (words plane) ≡ count) → size ≤ 64 * count → prec ≤ length planes
    → min budget (size * prec + size) ≤ out.room → (k ≡ 0) ⊎ (0 < size) → k ≤ prec → take k (planes_held size (map words planes)) ≡ replicate k (replicate size false)
    → Remains out out budget budget (code (take prec (planes_held size (map words planes)))) (replicate k false ++ code_from 0 (drop k (take prec (planes_held size (map words planes)))))
remains_all out words count budget prec size k planes long enough in_planes room some within zeros =
    let all = map words planes in
    let held = planes_held size all in
    let top = take prec held in
    let most = length-code_words-le words count prec size planes long enough in_planes in
    let first : take k top ≡ replicate k (replicate size false) = take-take k prec held within ∙ zeros in
    Remains-same (Remains-start out budget (code top) (omega (arith, room, most)))
    (ap code (sym (take-append-drop k top) ∙ ap (λ (ps : List (List Bool)). ps ++ drop k top) first) ∙ zeros_first k some)
  where
    zeros_first : (k : ℕ) → (k ≡ 0) ⊎ (0 < size) → code (replicate k (replicate size false) ++ drop k (take prec (planes_held size (map words planes)))) ≡ replicate k false ++ code_from 0 (drop k (take prec (planes_held size (map words planes))))
    zeros_first k = ⊎_elim (λ (none : k ≡ 0). rw none refl) (λ (size_some : 0 < size). zero_code k size (drop k (take prec (planes_held size (map words planes)))) size_some)

pub write_zeros_reserved-requires : goal.write_zeros_reserved-requires
write_zeros_reserved-requires g c = grind (arith, remains_all, length-replicate)

-- behind the zeros of the first k planes the code of the others remains
zeros_written : {A : Type 0} {new : Writer} (out : Writer) (words : A → List ℕ) (count budget prec size k bits : ℕ) (planes : List A) → ((plane : A) → length (words plane) ≡ count) → size ≤ 64 * count → prec ≤ length planes
    → min budget (size * prec + size) ≤ out.room → (k ≡ 0) ⊎ (0 < size) → k ≤ prec → take k (planes_held size (map words planes)) ≡ replicate k (replicate size false)
    → bits ≡ min budget k → Appends out new (replicate bits false)
    → Remains out new budget (budget - bits) (code (take prec (planes_held size (map words planes)))) (code_from 0 (drop k (take prec (planes_held size (map words planes)))))
zeros_written out words count budget prec size k bits planes long enough in_planes room some within zeros is written =
    let remains = remains_all out words count budget prec size k planes long enough in_planes room some within zeros in
    let appends = Appends-same written (ap (λ n. replicate n false) is ∙ sym (take_zeros budget k)) in
    let spent : budget - length (replicate k false) ≡ budget - bits = omega (arith, is, length-replicate k false) in
    rw spent at (Remains-more (replicate k false) _ remains appends)

begun : (g : Over) (c : After-write_zeros_reserved g)
    → Remains c.args.out.now c.write_zeros_reserved.new.self c.args.budget (c.args.budget - c.min-count.result) (code (take c.args.prec (planes_held c.args.size (map g.P.Plane.words c.args.planes.now))))
    (code_from 0 (drop c.args.zeros (take c.args.prec (planes_held c.args.size (map g.P.Plane.words c.args.planes.now)))))
begun g c =
    let k = c.args.zeros in
    let zeros = c.requires in
    let count : c.min-count.result ≡ min c.args.budget k = omega (arith, c.min-count.ensures, c.from.ensures) in
    zeros_written c.args.out.now g.P.Plane.words _ c.args.budget c.args.prec c.args.size k c.min-count.result c.args.planes.now g.met.P.Plane.long c.requires.words c.requires.planes c.requires.fits
    zeros.some zeros.within zeros.zeros count c.write_zeros_reserved.ensures.bits

pub loop-i-init : goal.loop-i-init
loop-i-init g c = record { remains = begun g c.before.before; above = omega arith }

-- ---- planes in one word each

pub write_planes_of_word-requires-clause-fits : goal.write_planes_of_word-requires-clause-fits
write_planes_of_word-requires-clause-fits g c = omega (arith, (begun g c.before.before).fits)

pub write_planes_of_word-requires-then-size-eq64-clause-fits : goal.write_planes_of_word-requires-then-size-eq64-clause-fits
write_planes_of_word-requires-then-size-eq64-clause-fits g c = omega (arith, (begun g c.before.before.before).fits)

pub returns-then-size-eq16-clause-bits : goal.returns-then-size-eq16-clause-bits
returns-then-size-eq16-clause-bits g c = (Remains-all _ (begun g c.before.before.before) c.write_planes_of_word.ensures).bits

pub returns-then-size-eq16-clause-count : goal.returns-then-size-eq16-clause-count
returns-then-size-eq16-clause-count g c = omega (arith, (Remains-all _ (begun g c.before.before.before) c.write_planes_of_word.ensures).left)

pub returns-then-size-eq64-clause-bits : goal.returns-then-size-eq64-clause-bits
returns-then-size-eq64-clause-bits g c = (Remains-all _ (begun g c.before.before.before.before) c.write_planes_of_word-then-size-eq64.ensures).bits

pub returns-then-size-eq64-clause-count : goal.returns-then-size-eq64-clause-count
returns-then-size-eq64-clause-count g c = omega (arith, (Remains-all _ (begun g c.before.before.before.before) c.write_planes_of_word-then-size-eq64.ensures).left)

-- ---- other planes

pub write_plane-left-requires-clause-fits : goal.write_plane-left-requires-clause-fits
write_plane-left-requires-clause-fits g c =
    Remains-fits _ _ (next_plane g.P.Plane.words c.loop-i.above c.args.prec c.args.size c.loop-i.i c.args.planes.now c.index-planes-planes.result c.loop-i.invariant.remains c.index-planes-planes.is c.loop-i-test.true c.requires.planes)

pub loop-i-preserved : goal.loop-i-preserved
loop-i-preserved g c =
    let ds = digits_held c.args.size (g.P.Plane.words c.index-planes-planes.result) in
    let rest = drop (c.loop-i.i + 1) (take c.args.prec (planes_held c.args.size (map g.P.Plane.words c.args.planes.now))) in
    let next = next_plane g.P.Plane.words c.loop-i.above c.args.prec c.args.size c.loop-i.i c.args.planes.now c.index-planes-planes.result c.loop-i.invariant.remains c.index-planes-planes.is c.loop-i-test.true c.requires.planes in
    let written = Remains-more (plane_code c.loop-i.above ds) (code_from (max c.loop-i.above (reach ds)) rest) next c.write_plane-left.ensures.bits in
    search rules

-- no bit or no plane is left
none_left : (g : Over) (c : goal.Left-loop-i g) → min c.loop-i.left (length (code_from c.loop-i.above (drop c.loop-i.i (take c.args.prec (planes_held c.args.size (map g.P.Plane.words c.args.planes.now)))))) ≡ 0
none_left g c = search (rules, then-loop-i-test+else-left-gt0, else-loop-i-test, length-map, drop_all, length-top_held)

pub returns-clause-bits : goal.returns-clause-bits
returns-clause-bits g c = Remains-end c.loop-i.invariant.remains (none_left g c)

pub returns-clause-count : goal.returns-clause-count
returns-clause-count g c = omega (arith, none_left g c, c.loop-i.invariant.remains.spent, c.loop-i.invariant.remains.within)
