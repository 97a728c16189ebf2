-- How far down a code at a fixed rate has its planes whole.
use Rattle.std.proofs.lemmas.Bool.{leb-false}
use Rattle.zf_planes.proofs.Strings.{code_from-append}
use Rattle.zf_spec.specs.Planes.{reach_of_all}
use Rattle.std.proofs.Common.{rules, ◌≡◌, sym, ap, subst, ◌∙◌, ℕ, ◌+◌, ◌-◌, ◌^◌, ◌<◌, ◌≤◌, max, Bool, false, leb, ℤ, List, [], ◌++◌, length, take, drop, get_or, replicate, All, ⊎_elim, take-take, take-append-drop, append-nil, arith}
use Rattle.std.{proofs.lemmas.Bool.{cases_lt, leb-true}, specs.List.{position_or_len}}
use Rattle.std.{proofs.lemmas.List.{length-append, length-take, length-replicate}, specs.Int.{Width}}
use Rattle.std.proofs.lemmas.List.Elements.{All-take}
use Rattle.std.proofs.lemmas.List.Sums.{fails_before_first, passes_at_first, prefix_len-le-length}
use mir.Val.{bits}
use Rattle.zf_spec.proofs.Beginnings.{length-first_bits, begins_is_first, begins_from_first, begins_prefix, begins_itself, first_bits-first_bits}
use Rattle.zf_spec.proofs.Full.{full_begins, full_only, length-planes_in, planes_in-length}
use Rattle.zf_spec.{proofs.PlaneDigits.{length-planes, planes-length}, proofs.CutCodes.{kept_planes-too_long}}
use Rattle.zf_spec.{specs.ReadPlanes.{first_bits, Begins, planes_in}, specs.Planes.{code_from, code}}
use Rattle.zf_spec.{proofs.Counting.{length-upto, get_or-upto}, specs.Codes.{planes, rate}, specs.Grid.{upto}}
use Rattle.zf_spec.{specs.Kept.{kept_planes}, specs.Padding.{pad}, specs.Lift.{lift}}
use Rattle.zf_block.specs.WholePlanes.{planes_from, whole_from, rate_whole_from}
use Rattle.zf_block.proofs.Kept.{length-kept_planes, kept_planes-top}
use Rattle.zf_block.proofs.PlanesPassed.{take-planes_in_from}

-- ---- the least plane from which on the codes fit a budget

-- whether they do from plane k on
abbrev fits_from : ℕ → List (List Bool) → ℕ → Bool
fits_from budget ps k = leb (length (code (planes_from k ps))) budget

at_place : (budget : ℕ) (ps : List (List Bool)) (k : ℕ) → k < length ps → fits_from budget ps (get_or (upto (length ps)) k 0) ≡ fits_from budget ps k
at_place budget ps k below = ap (fits_from budget ps) (get_or-upto (length ps) k 0 below)

pub whole_from-le : (budget : ℕ) (ps : List (List Bool)) → whole_from budget ps ≤ length ps
unfolding whole_from
whole_from-le budget ps = search (rules, prefix_len-le-length, length-upto)

pub whole_from-fits : (budget : ℕ) (ps : List (List Bool)) → length (code (planes_from (whole_from budget ps) ps)) ≤ budget
unfolding whole_from planes_from
whole_from-fits budget ps = ⊎_elim
    (λ below. leb-true (length (code (planes_from k ps))) budget (sym (at_place budget ps k below) ∙ passes_at_first (fits_from budget ps) (upto (length ps)) 0 (omega (arith, below, length-upto (length ps)))))
    (λ past. let none : length ps - k ≡ 0 = omega arith in rw none (omega arith))
    (cases_lt k (length ps))
  where
    k : ℕ
    k = position_or_len (fits_from budget ps) (upto (length ps))

pub whole_from-least : (budget : ℕ) (ps : List (List Bool)) (k : ℕ) → k < whole_from budget ps → budget < length (code (planes_from k ps))
unfolding whole_from
whole_from-least budget ps k below =
    let there : k < length ps = omega (arith, below, whole_from-le budget ps) in
    leb-false (length (code (planes_from k ps))) budget
    (sym (at_place budget ps k there) ∙ fails_before_first (fits_from budget ps) (upto (length ps)) k 0 below)

pub whole_from-only : (budget : ℕ) (ps : List (List Bool)) (k : ℕ) → k ≤ length ps → length (code (planes_from k ps)) ≤ budget
    → ((j : ℕ) → j < k → budget < length (code (planes_from j ps))) → k ≡ whole_from budget ps
whole_from-only budget ps k within fits least = ⊎_elim
    (λ more. absurd (omega (arith, whole_from-least budget ps k more, fits)))
    (λ some. ⊎_elim (λ less. absurd (omega (arith, least (whole_from budget ps) less, whole_from-fits budget ps))) (λ no_less. omega arith) (cases_lt (whole_from budget ps) k))
    (cases_lt k (whole_from budget ps))

-- ---- the code of the top planes begins the code of all

code_from-prefix : (n : ℕ) (ps : List (List Bool)) (m : ℕ) → (rest : List Bool) × (code_from n ps ≡ code_from n (take m ps) ++ rest)
code_from-prefix n ps m =
    let split = code_from-append n (take m ps) (drop m ps) in
    (code_from (max n (reach_of_all (take m ps))) (drop m ps), cc (split, take-append-drop m ps))

code_prefix_begins : (ps : List (List Bool)) (m : ℕ) (s : List Bool) → Begins (code ps) s → Begins (code (take m ps)) s
code_prefix_begins ps m s begins =
    let split = code_from-prefix 0 ps m in
    begins_prefix (code (take m ps)) split.0 s (subst (λ bs. Begins bs s) split.1 begins)

length-code_take-le : (ps : List (List Bool)) (m n : ℕ) → m ≤ n → length (code (take m ps)) ≤ length (code (take n ps))
length-code_take-le ps m n less =
    let split = code_from-prefix 0 (take n ps) m in search (rules, take-take, length-append)

-- ---- how many of the planes that are kept have codes that fit says which is the least plane

pub whole_from-kept : (size budget : ℕ) (ps : List (List Bool)) (m : ℕ) → All (λ ds. length ds ≡ size) ps → m ≤ length ps → length (code (take m (kept_planes budget ps))) ≤ budget
    → (m < length ps → budget < length (code (take (m + 1) (kept_planes budget ps)))) → length ps - m ≡ whole_from budget ps
unfolding planes_from
whole_from-kept size budget ps m all within fits no_more =
    let top : length ps - (length ps - m) ≡ m = omega arith in
    let own_fits : length (code (take m ps)) ≤ budget = grind (arith, kept_planes-too_long size budget ps m all) in
    let one_more : m < length ps → budget < length (code (take (m + 1) ps)) = grind (arith, kept_planes-top budget ps (m + 1)) in
    whole_from-only budget ps (length ps - m) (omega arith) (rw top own_fits)
    (λ j below. omega (arith, one_more (omega (arith, below)), length-code_take-le ps (m + 1) (length ps - j) (omega (arith, below))))

-- the same of planes that are held, with planes of zeros below or none
pub whole_from-held : (size budget : ℕ) (ps held : List (List Bool)) (n m : ℕ) → All (λ ds. length ds ≡ size) ps → held ≡ kept_planes budget ps ++ replicate n (replicate size false)
    → length held ≡ length ps → m ≤ length ps → length (code (take m held)) ≤ budget → (m < length ps → budget < length (code (take (m + 1) held))) → length ps - m ≡ whole_from budget ps
whole_from-held size budget ps held n m all is long within fits no_more =
    let zeros = replicate n (replicate size false) in
    let none : n ≡ 0 = omega (arith, ap length is, length-append (kept_planes budget ps) zeros, length-kept_planes budget ps, length-replicate n (replicate size false), long) in
    let same = rw (none, append-nil (kept_planes budget ps)) at is in
    whole_from-kept size budget ps m all within (rw same at fits) (rw same at no_more)

-- ---- whatever planes have this code: those from the least plane on are kept as they are

module _ (size budget : ℕ) (ps : List (List Bool)) (all : All (λ ds. length ds ≡ size) ps) where
  abbrev s : List Bool
  s = first_bits budget (code ps)

  -- the planes that the code stands for
  abbrev qs : List (List Bool)
  qs = planes_in (length ps) size (first_bits budget (code ps))

  -- the top ones that fit the budget are those that it was made of
  tops_same : (m : ℕ) → m ≤ length ps → length (code (take m qs)) ≤ budget → take m qs ≡ take m ps
  tops_same m within fits =
      let read = take m qs in
      let begins = begins_is_first (code read) s (code_prefix_begins qs m s (full_begins (length ps) size s)) in
      let count : length read ≡ m = omega (arith, length-take m qs, length-planes_in (length ps) size s, within) in
      let own_count : length (take m ps) ≡ m = omega (arith, length-take m ps, within) in
      let itself : Begins (code ps) (code ps) = rw append-nil at (begins_itself (code ps) []) in
      let one = full_only size read (code ps) (All-take (λ ds. length ds ≡ size) m qs (planes_in-length (length ps) size s))
      (begins_from_first (code read) (code ps) (begins ∙ first_bits-first_bits (length (code read)) budget (code ps) fits)) in
      cc (one, full_only size (take m ps) (code ps) (All-take (λ ds. length ds ≡ size) m ps all) (code_prefix_begins ps m (code ps) itself))

  kept_from : (k : ℕ) → whole_from budget qs ≤ k → planes_from k (kept_planes budget ps) ≡ planes_from k ps
  unfolding planes_from
  kept_from k from =
      let m = length ps - k in
      let count = length-planes_in (length ps) size s in
      let fits : length (code (take m qs)) ≤ budget =
      omega (arith, whole_from-fits budget qs, length-code_take-le qs m (length qs - whole_from budget qs) (omega (arith, from, count))) in
      rw length-kept_planes (kept_planes-top budget ps m (rw (tops_same m (omega arith) fits) at fits))

-- the planes of the coefficients of a block
abbrev pub block_planes : Width → List ℕ → List ℤ → List (List Bool)
block_planes w es block = planes w (length es) (lift w (length es) (pad es block))

pub planes_kept_from : (w : Width) (budget : ℕ) (es : List ℕ) (block : List ℤ) (k : ℕ) → rate_whole_from w (length es) (rate w budget es block) ≤ k
    → planes_from k (kept_planes budget (block_planes w es block)) ≡ planes_from k (block_planes w es block)
unfolding rate rate_whole_from
planes_kept_from w budget es block k from =
    let d = length es in
    let c = lift w d (pad es block) in
    let ps = planes w d c in
    let s = first_bits budget (code ps) in
    let whole : whole_from (length s) (planes_in (bits w) (4 ^ d) s) ≡ whole_from budget (planes_in (length ps) (4 ^ d) s) =
    search (rules, length-first_bits, length-planes) in
    kept_from (4 ^ d) budget ps (planes-length w d c) k (omega (arith, whole, from))

-- ---- how many of the planes above one have their codes among the bits

module _ (w : Width) (d least m : ℕ) (s : List Bool) (within : least ≤ bits w) (most : m ≤ bits w - least) where
  top_whole : (k : ℕ) → k ≤ bits w - least → take k (planes_in (bits w - least) (4 ^ d) s) ≡ take k (planes_in (bits w) (4 ^ d) s)
  top_whole k low = take-planes_in_from k (bits w - least) (bits w) (4 ^ d) 0 s low (omega (arith, low))

  -- says which is the least plane, or that it is no greater than that one
  pub whole_from-above : length (code (take m (planes_in (bits w - least) (4 ^ d) s))) ≤ length s
      → (m < bits w - least → length s < length (code (take (m + 1) (planes_in (bits w - least) (4 ^ d) s)))) → bits w - m ≡ max least (rate_whole_from w d s)
  unfolding rate_whole_from planes_from
  whole_from-above fits no_more =
      let ps = planes_in (bits w) (4 ^ d) s in
      let k = whole_from (length s) ps in
      let count = length-planes_in (bits w) (4 ^ d) s in
      let top : length ps - (bits w - m) ≡ m = omega (arith, count, most) in
      let own_fits : length (code (take m ps)) ≤ length s = rw (top_whole m most) at fits in
      ⊎_elim
      (λ (below : m < bits w - least).
      let one_more : length s < length (code (take (m + 1) ps)) = rw (top_whole (m + 1) (omega (arith, below))) at (no_more below) in
      let is = whole_from-only (length s) ps (bits w - m) (omega (arith, count)) (rw top own_fits)
      (λ j less. omega (arith, one_more, length-code_take-le ps (m + 1) (length ps - j) (omega (arith, less, count, most)))) in
      omega (arith, is, below))
      (λ (all : bits w - least ≤ m).
      ⊎_elim
      (λ (more : least < k).
      let same : length ps - least ≡ m = omega (arith, count, all, most) in
      absurd (omega (arith, rw same at (whole_from-least (length s) ps least more), own_fits)))
      (λ (no_more : k ≤ least). omega (arith, all, most, within))
      (cases_lt least k))
      (cases_lt m (bits w - least))
