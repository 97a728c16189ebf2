-- What a budget keeps of planes is known from as many bits of their code.
use Rattle.std.proofs.Common.{rules, ◌≡◌, refl, sym, ap, ◌∙◌, ℕ, zero, suc, ◌+◌, ◌-◌, ◌<◌, ◌≤◌, min, max, Bool, true, false, cond, le-leb, List, [], ◌∷◌, ◌++◌, length, take, drop, replicate, All, append_assoc, append-nil, take-take, arith, ⊎_elim}
use Rattle.std.proofs.lemmas.Bool.{true≢false, false≢true, cases_lt, lt-leb}
use Rattle.std.proofs.lemmas.List.{length-append, length-take, length-drop, replicate-append-replicate}
use Rattle.std.proofs.lemmas.List.Elements.{All-head, All-tail}
use Rattle.zf_spec.specs.Planes.{has_one, reach, group, code_from_run, tail, plane_code, code_from, code}
use Rattle.zf_spec.specs.Kept.{zeros, kept_run, kept_tail, cut_plane, kept_plane, kept_planes_from, kept_planes}
use Rattle.zf_spec.{specs.ReadPlanes.{first_bits, planes_in}, proofs.Reach.{reach-le}}
use Rattle.zf_spec.proofs.Beginnings.{begins_is_first, begins_from_first, begins_itself, first_bits-first_bits, first_bits-append, first_bits-rest, first_bits-prefix, first_bits-all}
use Rattle.zf_spec.proofs.KeptCases.{kept_tail-zeros, kept_tail-one}
use Rattle.zf_spec.proofs.Full.{full_plane_only, full_begins, full_only, length-planes_in, planes_in-length}

zeros_same : (a b : List Bool) → length a ≡ length b → zeros a ≡ zeros b
zeros_same a b l = ap (λ n. replicate n false) l

-- ---- runs and tails

-- of runs that agree in s bits, s bits keep the same
abbrev RunsSame : List Bool → List Bool → Type 0
RunsSame a b = (s : ℕ) → has_one a ≡ true → has_one b ≡ true → first_bits s (code_from_run a) ≡ first_bits s (code_from_run b) → kept_run s a ≡ kept_run s b

groups_same : (a b : List Bool) (r : ℕ) → length a ≡ length b → RunsSame a b → first_bits r (group a (code_from_run a)) ≡ first_bits r (group b (code_from_run b)) → kept_tail r a ≡ kept_tail r b
groups_same a b zero l runs e = zeros_same a b l
groups_same a b (suc r) l runs e = search (rules, kept_tail-one, kept_tail-zeros, zeros_same, true≢false, false≢true)

runs_same : (a b : List Bool) → length a ≡ length b → RunsSame a b
runs_same [] [] l s f g e = refl
runs_same (c ∷ a) (d ∷ b) l zero f g e = ap (λ ds. true ∷ ds) (zeros_same a b (omega arith))
runs_same (c ∷ []) (d ∷ []) l (suc s) f g e = refl
runs_same (true ∷ c' ∷ a) (true ∷ d' ∷ b) l (suc s) f g e =
    let rest : first_bits s (tail (c' ∷ a)) ≡ first_bits s (tail (d' ∷ b)) = cc in
    ap (λ ds. true ∷ ds) (groups_same (c' ∷ a) (d' ∷ b) s (omega arith) (runs_same (c' ∷ a) (d' ∷ b) (omega arith)) rest)
runs_same (false ∷ c' ∷ a) (false ∷ d' ∷ b) l (suc s) f g e =
    let rest : first_bits s (code_from_run (c' ∷ a)) ≡ first_bits s (code_from_run (d' ∷ b)) = cc in
    ap (λ ds. false ∷ ds) (runs_same (c' ∷ a) (d' ∷ b) (omega arith) s f g rest)
runs_same (c ∷ c' ∷ a) (d ∷ d' ∷ b) l (suc s) f g e = cc
runs_same a b l s f g e = absurd (omega arith)

pub tails_same : (a b : List Bool) (r : ℕ) → length a ≡ length b → first_bits r (tail a) ≡ first_bits r (tail b) → kept_tail r a ≡ kept_tail r b
tails_same [] [] r l e = refl
tails_same (c ∷ a) (d ∷ b) r l e = groups_same (c ∷ a) (d ∷ b) r l (runs_same (c ∷ a) (d ∷ b) l) e
tails_same a b r l e = absurd (omega arith)

-- ---- one plane

-- a plane whose code is whole in the first r bits is known from them
plane_same : (n r : ℕ) (a b rest more : List Bool) → length a ≡ length b → n ≤ length a → length (plane_code n a) ≤ r
    → first_bits r (plane_code n a ++ rest) ≡ first_bits r (plane_code n b ++ more) → a ≡ b
plane_same n r a b rest more l h fits e =
    let c = plane_code n a in
    let s = plane_code n b ++ more in
    let same = first_bits-first_bits (length c) r (c ++ rest) fits in
    let begins : c ≡ first_bits (length c) s = cc (first_bits-all c rest, first_bits-first_bits (length c) r s fits) in
    let only = full_plane_only n b s (omega arith) (begins_itself (plane_code n b) more) in
    cc (full_plane_only n a s h (begins_from_first c s begins))

-- of a plane whose code is cut as much is kept as the bits tell
cut_same : (n r : ℕ) (a b rest more : List Bool) → length a ≡ length b → n ≤ length a → r < length (plane_code n a) → r < length (plane_code n b)
    → first_bits r (plane_code n a ++ rest) ≡ first_bits r (plane_code n b ++ more) → cut_plane r n a ≡ cut_plane r n b
cut_same n r a b rest more l h cut_a cut_b e =
    let q = min n r in
    let parts : (ds more : List Bool) → plane_code n ds ++ more ≡ take n ds ++ (tail (drop n ds) ++ more) =
    λ ds more. append_assoc (take n ds) (tail (drop n ds)) more in
    let of_prefix : (k : ℕ) (ds more : List Bool) → k ≤ n → n ≤ length ds → first_bits k (plane_code n ds ++ more) ≡ take k ds =
    λ k ds more f w. search (rules, append_assoc, first_bits-append, length-take, take-take) in
    let prefixes : (k : ℕ) → k ≤ n → k ≤ r → take k a ≡ take k b =
    λ k f g.
    let of_a = first_bits-first_bits k r (plane_code n a ++ rest) g in
    let of_b = first_bits-first_bits k r (plane_code n b ++ more) g in
    cc (of_prefix k a rest f h, of_prefix k b more f (omega arith)) in
    let prefix = prefixes q (omega arith) (omega arith) in
    let middle = zeros_same (drop q (take n a)) (drop q (take n b))
    (omega (arith, length-drop q (take n a), length-drop q (take n b), length-take n a, length-take n b)) in
    let lengths : length (drop n a) ≡ length (drop n b) = omega (arith, length-drop n a, length-drop n b) in
    let last : kept_tail (r - q) (drop n a) ≡ kept_tail (r - q) (drop n b) = ⊎_elim
    (λ (less : r < n).
    let none : r - q ≡ 0 = omega arith in rw none (zeros_same (drop n a) (drop n b) lengths))
    (λ (enough : n ≤ r).
    let left : r - q ≡ r - n = omega arith in
    let wide : length (take n b) ≡ n = omega (arith, length-take n b) in
    let tail_a = tail (drop n a) ++ rest in
    let tail_b = tail (drop n b) ++ more in
    let same : first_bits r (take n b ++ tail_a) ≡ first_bits r (take n b ++ tail_b) =
    cc (prefixes n (omega arith) enough, parts a rest, parts b more) in
    let behind = rw wide at (first_bits-rest (take n b) tail_a tail_b r (omega arith) same) in
    let short_a : r - n ≤ length (tail (drop n a)) =
    omega (arith, length-append (take n a) (tail (drop n a)), length-take n a) in
    let short_b : r - n ≤ length (tail (drop n b)) =
    omega (arith, length-append (take n b) (tail (drop n b)), length-take n b) in
    let of_a = first_bits-prefix (tail (drop n a)) rest (r - n) short_a in
    rw left (tails_same (drop n a) (drop n b) (r - n) lengths (cc (first_bits-prefix (tail (drop n b)) more (r - n) short_b))))
    (cases_lt r n) in
    cc

-- ---- planes

pub kept_whole : (r n : ℕ) (ds : List Bool) → length (plane_code n ds) ≤ r → kept_plane r n ds ≡ ds
kept_whole r n ds h = ap (λ t. cond t ds (cut_plane r n ds)) (le-leb (length (plane_code n ds)) r h)

pub kept_cut : (r n : ℕ) (ds : List Bool) → r < length (plane_code n ds) → kept_plane r n ds ≡ cut_plane r n ds
kept_cut r n ds h = ap (λ t. cond t ds (cut_plane r n ds)) (lt-leb (length (plane_code n ds)) r h)

-- a plane with a digit has a code
pub plane_code_some : (n : ℕ) (ds : List Bool) → 1 ≤ length ds → 1 ≤ length (plane_code n ds)
plane_code_some n ds h = grind arith

-- no bit keeps nothing
pub kept_planes_from-none : (size n : ℕ) (ps : List (List Bool)) → 1 ≤ size → All (λ ds. length ds ≡ size) ps → kept_planes_from 0 n ps ≡ replicate (length ps) (replicate size false)
kept_planes_from-none size n [] some all = refl
kept_planes_from-none size n (ds ∷ ps) some all =
    let l : length ds ≡ size = All-head (λ ds. length ds ≡ size) ds ps all in
    let code_some = plane_code_some n ds (omega arith) in
    let none : 0 - length (plane_code n ds) ≡ 0 = omega arith in
    let q : min n 0 ≡ 0 = omega arith in
    let whole : length (take n ds) + length (drop n ds) ≡ size = omega (arith, length-take n ds, length-drop n ds) in
    let next = kept_planes_from-none size (max n (reach ds)) ps some (All-tail (λ ds. length ds ≡ size) ds ps all) in search (rules, kept_cut, replicate-append-replicate)

-- of planes whose codes agree in r bits, r bits keep the same
kept_from_same : (size n r : ℕ) (ps qs : List (List Bool)) → 1 ≤ size → n ≤ size → length ps ≡ length qs → All (λ ds. length ds ≡ size) ps → All (λ ds. length ds ≡ size) qs
    → first_bits r (code_from n ps) ≡ first_bits r (code_from n qs) → kept_planes_from r n ps ≡ kept_planes_from r n qs
kept_from_same size n r [] [] some h l f g e = refl
kept_from_same size n r (a ∷ ps) (b ∷ qs) some h l f g e =
    let c = plane_code n a in
    let d = plane_code n b in
    let length_a : length a ≡ size = All-head (λ ds. length ds ≡ size) a ps f in
    let length_b : length b ≡ size = All-head (λ ds. length ds ≡ size) b qs g in
    let sizes = All-tail (λ ds. length ds ≡ size) a ps f in
    let others = All-tail (λ ds. length ds ≡ size) b qs g in
    let rest_a = code_from (max n (reach a)) ps in
    let rest_b = code_from (max n (reach b)) qs in
    let next = λ (k n' : ℕ) (w : n' ≤ size).
    kept_from_same size n' k ps qs some w (omega arith) sizes others in
    let whole : a ≡ b → length c ≤ r → kept_planes_from r n (a ∷ ps) ≡ kept_planes_from r n (b ∷ qs) =
    λ same fits.
    let more = next (r - length c) (max n (reach a)) (omega (arith, reach-le a))
    (first_bits-rest c rest_a (code_from (max n (reach a)) qs) r fits (cc)) in cc in
    ⊎_elim
    (λ (cut_a : r < length c). ⊎_elim
    (λ (cut_b : r < length d).
    let none_a : r - length c ≡ 0 = omega arith in
    let none_b : r - length d ≡ 0 = omega arith in
    let plane = cut_same n r a b rest_a rest_b (length_a ∙ sym length_b)
    (omega (arith, length_a)) cut_a cut_b e in
    let count : length ps ≡ length qs = omega arith in
    let below_a = kept_planes_from-none size (max n (reach a)) ps some sizes in
    let below_b = kept_planes_from-none size (max n (reach b)) qs some others in
    cc (kept_cut r n a cut_a, kept_cut r n b cut_b))
    (λ (fits : length d ≤ r).
    let same =
    sym (plane_same n r b a rest_b rest_a (length_b ∙ sym length_a) (omega (arith, length_b)) fits (sym e)) in
    whole same (rw same fits))
    (cases_lt r (length d)))
    (λ (fits : length c ≤ r).
    whole (plane_same n r a b rest_a rest_b (length_a ∙ sym length_b) (omega (arith, length_a)) fits e) fits)
    (cases_lt r (length c))
kept_from_same size n r ps qs some h l f g e = absurd (omega arith)

pub kept_same : (size budget : ℕ) (ps qs : List (List Bool)) → 1 ≤ size → length ps ≡ length qs → All (λ ds. length ds ≡ size) ps → All (λ ds. length ds ≡ size) qs
    → first_bits budget (code ps) ≡ first_bits budget (code qs) → kept_planes budget ps ≡ kept_planes budget qs
kept_same size budget ps qs some l f g e = kept_from_same size 0 budget ps qs some (omega arith) l f g e

-- the full planes of the first bits of a code keep what its planes keep
pub kept_planes-planes_in : (size budget : ℕ) (ps : List (List Bool)) → 1 ≤ size → All (λ ds. length ds ≡ size) ps → kept_planes budget (planes_in (length ps) size (first_bits budget (code ps))) ≡ kept_planes budget ps
kept_planes-planes_in size budget ps some all =
    let s = first_bits budget (code ps) in
    let qs = planes_in (length ps) size s in
    let n = length (code qs) in
    let begins = begins_is_first (code qs) s (full_begins (length ps) size s) in
    let count = length-planes_in (length ps) size s in
    let sizes = planes_in-length (length ps) size s in
    ⊎_elim
    (λ (more : budget < n). kept_same size budget qs ps some count sizes all (cc (first_bits-first_bits budget n s (omega arith), first_bits-first_bits budget budget (code ps) (omega arith))))
    (λ (fits : n ≤ budget).
    let own = full_only size ps (code ps) all (rw append-nil at (begins_itself (code ps) [])) in
    let same = full_only size qs (code ps) sizes
    (begins_from_first (code qs) (code ps) (begins ∙ first_bits-first_bits n budget (code ps) fits)) in
    ap (kept_planes budget) (cc))
    (cases_lt budget n)
