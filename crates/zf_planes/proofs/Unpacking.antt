-- The digits that planes hold in words.
use Rattle.std.proofs.Common.{rules, ◌≡◌, ℕ, zero, suc, map, ◌+◌, ◌-◌, ◌*◌, ◌<◌, ◌≤◌, ◌≢◌, Bool, false, max, List, [], ◌∷◌, ◌++◌, length, take, drop, get_or, set, replicate, refl, sym, ap, ◌∙◌, arith, ext_get_or, length-set, get_or-set_same, get_or-set_other}
use Rattle.std.proofs.lemmas.List.{map-set, take_more_set, length-map, get_or-map, get_or-take, length-take, drop_more, length-replicate, get_or-replicate}
use Rattle.std.{proofs.lemmas.Bool.{cases_eq}, specs.List.{All}}
use Rattle.zf_planes.{specs.Writes.{Remains}, proofs.Placing.{behind_next, held_zeros}}
use Rattle.zf_bits.specs.Writer.{Writer}
use Rattle.zf_spec.{specs.Numbers.{field}, proofs.Counting.{four_elements}, specs.Planes.{code_from, plane_code, reach}}
use Rattle.zf_spec.specs.HeldPlanes.{digits_held, planes_held}
use Rattle.zf_spec.proofs.HeldPlanes.{length-digits_held, get_or-planes_held, length-planes_held}

-- ---- the top planes

pub length-top_held : (prec size : ℕ) (planes : List (List ℕ)) → prec ≤ length planes → length (take prec (planes_held size planes)) ≡ prec
length-top_held prec size planes within = omega (arith, length-take prec (planes_held size planes), length-planes_held size planes)

pub drop-top_held : (prec size : ℕ) (planes : List (List ℕ)) (i : ℕ) → i < prec → prec ≤ length planes
    → drop i (take prec (planes_held size planes)) ≡ digits_held size (get_or planes (length planes - 1 - i) []) ∷ drop (i + 1) (take prec (planes_held size planes))
drop-top_held prec size planes i below within =
    let top = take prec (planes_held size planes) in
    drop_more top i [] (omega (arith, length-top_held prec size planes within))
    ∙ ap (λ (ds : List Bool). ds ∷ drop (i + 1) top) (get_or-take prec (planes_held size planes) i [] below ∙ get_or-planes_held size planes i [] (omega arith))

-- each of them has this size
pub sizes-top_words : (prec size : ℕ) (planes : List (List ℕ)) → ((i : ℕ) → i < length planes → size ≤ 64 * length (get_or planes i [])) → All (λ ds. length ds ≡ size) (take prec (planes_held size planes))
sizes-top_words prec size planes enough = search (rules, length-take, length-planes_held, get_or-take, get_or-planes_held, length-digits_held)

-- ---- planes of any type that has words

-- each has as many words as the type says
pub each_long : {A : Type 0} (words : A → List ℕ) (n : ℕ) → ((plane : A) → length (words plane) ≡ n) → (planes : List A) (i : ℕ) → i < length planes → length (get_or (map words planes) i []) ≡ n
each_long words n long [] i below = absurd (omega arith)
each_long words n long (plane ∷ planes) zero below = long plane
each_long words n long (plane ∷ planes) (suc i) below = each_long words n long planes i (omega arith)

-- the code from the i-th plane on begins with that of the plane
pub code_next : {A : Type 0} (words : A → List ℕ) (above prec size i : ℕ) (planes : List A) (plane : A) → plane ≡ get_or planes (length planes - 1 - i) plane → i < prec → prec ≤ length planes
    → code_from above (drop i (take prec (planes_held size (map words planes))))
    ≡ plane_code above (digits_held size (words plane)) ++ code_from (max above (reach (digits_held size (words plane)))) (drop (i + 1) (take prec (planes_held size (map words planes))))
code_next words above prec size i planes plane is below within = search (rules, length-map, get_or-map, drop-top_held)

-- behind bits that are not written yet comes the next plane, of which the digits are at hand
pub next_word : {A : Type 0} {old now : Writer} {budget left : ℕ} {whole : List Bool} (words : A → List ℕ) (above prec size i len bits digits : ℕ) (planes : List A) (plane : A)
    → Remains old now budget left whole (field len bits ++ code_from above (drop i (take prec (planes_held size (map words planes)))))
    → plane ≡ get_or planes (length planes - 1 - i) plane → i < prec → prec ≤ length planes → field size digits ≡ digits_held size (words plane)
    → Remains old now budget left whole (field len bits ++ (plane_code above (field size digits) ++ code_from (max above (reach (field size digits))) (drop (i + 1) (take prec (planes_held size (map words planes))))))
next_word words above prec size i len bits digits planes plane remains is below within same = search (rules, code_next)

-- planes of four words are those of their words by number
pub arrays_as_words : (planes : List (List ℕ)) → ((i : ℕ) → i < length planes → length (get_or planes i []) ≡ 4)
    → map (λ words. get_or words 0 0 ∷ get_or words 1 0 ∷ get_or words 2 0 ∷ get_or words 3 0 ∷ []) planes ≡ planes
arrays_as_words [] four = refl
arrays_as_words (words ∷ planes) four =
    ap (λ (ws : List ℕ). ws ∷ map (λ ws. get_or ws 0 0 ∷ get_or ws 1 0 ∷ get_or ws 2 0 ∷ get_or ws 3 0 ∷ []) planes) (four_elements words (four 0 (omega arith)))
    ∙ ap (λ (ps : List (List ℕ)). words ∷ ps) (arrays_as_words planes (λ i below. four (suc i) (omega arith)))

-- ---- planes that are written

-- a plane is written
pub planes_held-set : (size : ℕ) (planes : List (List ℕ)) (i : ℕ) (words : List ℕ) → i < length planes
    → planes_held size (set planes (length planes - 1 - i) words) ≡ set (planes_held size planes) i (digits_held size words)
planes_held-set size planes i words within =
    ext_get_or [] (planes_held size after) (set (planes_held size planes) i (digits_held size words))
    (omega (arith, length-planes_held size after, long, length-set (planes_held size planes) i (digits_held size words), length-planes_held size planes))
    (search (rules, length-planes_held, get_or-planes_held, cases_eq))
  where
    after : List (List ℕ)
    after = set planes (length planes - 1 - i) words

    long : length (set planes (length planes - 1 - i) words) ≡ length planes
    long = length-set planes (length planes - 1 - i) words

    same : (j : ℕ) → j ≡ i → digits_held size (get_or (set planes (length planes - 1 - i) words) (length planes - 1 - j) []) ≡ get_or (set (planes_held size planes) i (digits_held size words)) j []
    same j e =
        let held = length-planes_held size planes in
        rw e (ap (digits_held size) (get_or-set_same planes (length planes - 1 - i) words [] (omega arith))
        ∙ sym (get_or-set_same (planes_held size planes) i (digits_held size words) [] (omega arith)))

    other : (j : ℕ) → j < length planes → j ≢ i → digits_held size (get_or (set planes (length planes - 1 - i) words) (length planes - 1 - j) []) ≡ get_or (set (planes_held size planes) i (digits_held size words)) j []
    other j in_planes apart =
        let places : length planes - 1 - j ≢ length planes - 1 - i = λ (e : length planes - 1 - j ≡ length planes - 1 - i). apart (omega arith) in
        ap (digits_held size) (get_or-set_other planes (length planes - 1 - i) (length planes - 1 - j) words [] places)
        ∙ sym (get_or-planes_held size planes j [] in_planes)
        ∙ sym (get_or-set_other (planes_held size planes) i j (digits_held size words) [] apart)

-- ---- planes with no bit

pub planes_held-zeros : (size n k : ℕ) → size ≤ 64 * k → planes_held size (replicate n (replicate k 0)) ≡ replicate n (replicate size false)
planes_held-zeros size n k within =
    let words = replicate k 0 in
    let long = length-replicate n words in
    ext_get_or [] (planes_held size (replicate n words)) (replicate n (replicate size false))
    (omega (arith, length-planes_held size (replicate n words), long, length-replicate n (replicate size false)))
    (search (rules, length-planes_held, get_or-planes_held, get_or-replicate, held_zeros))

-- the digits of planes, of which one more is written
pub top_more : (size : ℕ) (planes : List (List ℕ)) (i : ℕ) (words : List ℕ) → i < length planes
    → take (i + 1) (planes_held size (set planes (length planes - 1 - i) words)) ≡ take i (planes_held size planes) ++ digits_held size words ∷ []
top_more size planes i words within =
    ap (take (i + 1)) (planes_held-set size planes i words within) ∙ take_more_set (planes_held size planes) i (digits_held size words) (omega (arith, length-planes_held size planes))

pub top_behind : (size : ℕ) (planes : List (List ℕ)) (i : ℕ) (words : List ℕ) → i < length planes → drop i (planes_held size planes) ≡ replicate (length planes - i) (replicate size false)
    → drop (i + 1) (planes_held size (set planes (length planes - 1 - i) words)) ≡ replicate (length (set planes (length planes - 1 - i) words) - (i + 1)) (replicate size false)
top_behind size planes i words within back = search (rules, length-planes_held, length-set, planes_held-set, behind_next)

-- a plane set among planes, as words
pub set_words : {A : Type 0} (words : A → List ℕ) (planes : List A) (i : ℕ) (plane : A)
    → map words (set planes (length planes - 1 - i) plane) ≡ set (map words planes) (length (map words planes) - 1 - i) (words plane)
set_words words planes i plane = map-set words planes (length planes - 1 - i) plane ∙ ap (λ n. set (map words planes) (n - 1 - i) (words plane)) (sym (length-map planes words))
