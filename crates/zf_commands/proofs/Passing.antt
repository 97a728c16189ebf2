-- Passes over all blocks, and sums of the values of one.
use Rattle.std.proofs.Common.{◌≡◌, refl, sym, ap, ◌∙◌, ℕ, zero, suc, ◌+◌, ◌-◌, ◌*◌, ◌<◌, ◌≤◌, ◌^◌, ℤ, pos, ◌+ℤ◌, List, [], ◌∷◌, ◌++◌, map, length, take, drop, replicate, get_or, FitsSigned, to_z, of_z, arith, rules}
use Rattle.std.{specs.Int.{w128}, specs.List.{refill}, proofs.lemmas.Int.{ints, to_z-of_z}}
use Rattle.std.{proofs.lemmas.List.{map-append}, proofs.Math.Seq.{take-append_seam}}
use Rattle.zf_spec.specs.Grid.{IsShape, upto, count_from, extent_of}
use Rattle.zf_spec.proofs.Counting.{count_from-add, map-upto_same, count_from-below}
use Rattle.zf_base.{specs.Formats.{existing_of}, specs.declared.position.Extent.{Extent}}
use Rattle.zf_base.specs.Positions.{used_axes, IsExtent}
use Rattle.zf_cached.{specs.State.{State}, specs.Arrays.{Coding, array_format}}
use Rattle.zf_cached.specs.Steps.{Setting, Session, touched, changed, filled_below, summed, total, format_of}
use Rattle.zf_commands.{specs.Sittings.{OnState}, specs.Steps.{Touches, Fills}, specs.Sums.{within}}
use Rattle.zf_pad.{specs.Layouts.{place_indices}, proofs.Existing.{has_place}}
use Rattle.zf_window.{specs.Bounds.{IsUpTo}, proofs.Bounds.{up_to_fits}}

-- a list of one value alone
pub all_alike : {X : Type 0} (xs : List X) (v : X) → ((k : ℕ) → k < length xs → get_or xs k v ≡ v) → xs ≡ replicate (length xs) v
all_alike [] v same = refl
all_alike (x ∷ xs) v same =
    let first : x ≡ v = same 0 (omega arith) in
    let rest : xs ≡ replicate (length xs) v = all_alike xs v (λ k lt. same (suc k) (omega arith)) in
    λ i. first i ∷ rest i

refill_same : {X : Type 0} (xs ws : List X) → length ws ≡ length xs → refill (length xs) xs ws ≡ ws
refill_same xs ws long = ap (λ n. take n (ws ++ drop (length ws) xs)) (sym long) ∙ take-append_seam ws (drop (length ws) xs)

pub map-replicate : {X Y : Type 0} (f : X → Y) (n : ℕ) (x : X) → map f (replicate n x) ≡ replicate n (f x)
map-replicate f zero x = refl
map-replicate f (suc n) x = ap (λ ys. f x ∷ ys) (map-replicate f n x)

-- a line that was filled
pub filled_line : {X : Type 0} (value : X → ℤ) (line new : List X) (v : X) → new ≡ replicate (length line) v → length new ≡ length line
    → map value (refill (length line) line new) ≡ replicate (length line) (value v)
filled_line value line new v is long = ap (map value) (refill_same line new long ∙ is) ∙ map-replicate value (length line) v

-- ---- sums

total-append : (xs : List ℤ) (y : ℤ) → total (xs ++ y ∷ []) ≡ total xs +ℤ y
total-append [] y = omega (arith, ints)
total-append (x ∷ xs) y = let rest = total-append xs y in omega (arith, ints, rest)

-- with one number more
pub total_more : (f : ℕ → ℤ) (n : ℕ) → total (map f (upto (n + 1))) ≡ total (map f (upto n)) +ℤ f n
total_more f n = search (rules, count_from-add, map-append, total-append)

-- small numbers have small sums
pub up_to_more : (step n : ℕ) (s x : ℤ) → IsUpTo (step * n) s → IsUpTo step x → IsUpTo (step * (n + 1)) (s +ℤ x)
up_to_more step n s x sum one = search (rules, ints)

pub up_to_less : (m n : ℕ) (s : ℤ) → m ≤ n → IsUpTo m s → IsUpTo n s
up_to_less m n s le h = (omega (arith, ints, h.0, le), omega (arith, ints, h.1, le))

-- the sum of two numbers of 128 bits
module _ (bits : ℕ) (x : ℤ) where
  pub summed_fits : (n step : ℕ) → step * (n + 1) ≤ 2 ^ 100 → step ≤ 2 ^ 100 → IsUpTo (step * n) (to_z w128 bits) → IsUpTo step x → FitsSigned w128 (to_z w128 bits +ℤ to_z w128 (of_z w128 x))
  summed_fits n step room less sum_small small = search (rules, to_z-of_z, up_to_fits, up_to_less, up_to_more)

  pub summed_is : (n step : ℕ) → step * (n + 1) ≤ 2 ^ 100 → step ≤ 2 ^ 100 → IsUpTo (step * n) (to_z w128 bits) → IsUpTo step x
      → to_z w128 (of_z w128 (to_z w128 bits +ℤ to_z w128 (of_z w128 x))) ≡ to_z w128 bits +ℤ x
  summed_is n step room less sum_small small = search (rules, to_z-of_z, summed_fits, up_to_fits, up_to_less)

-- ---- passes

-- the state alone is another, and then again
on_state : {Code : Type 0} (r s t : Session Code) → OnState r s → (x : State Code) → t ≡ record s { state = x } → OnState r t
on_state {Code} r s t stays x is =
    is ∙ ap (λ (q : Session Code). record q { state = x }) stays ∙ ap (λ (q : Session Code). record r { state = q.state }) (sym is)

-- one block more is filled
pub fill_next : {Code : Type 0} (setting : Setting Code) (s t : Session Code) (k n : ℕ) (x : ℤ) → k < n
    → changed setting s k (λ values. existing_of (format_of setting s) k (replicate (format_of setting s).block_len x)) ≡ t
    → filled_below setting s x (count_from k (n - k)) ≡ filled_below setting t x (count_from (k + 1) (n - (k + 1)))
unfolding filled_below
fill_next setting s t k n x below is =
    ap (filled_below setting s x) (count_from-below k n below) ∙ ap (λ u. filled_below setting u x (count_from (k + 1) (n - (k + 1)))) is

-- it changes the state alone
pub stays_filled : {Code : Type 0} (setting : Setting Code) (k : ℕ) (x : ℤ) (r s t : Session Code) → OnState r s → Fills setting k x s t → OnState r t
unfolding changed touched
stays_filled setting k x r s t stays fills = on_state r s t stays _ (sym fills)

-- at last none is left
pub filled_all : {Code : Type 0} (setting : Setting Code) (s : Session Code) (x : ℤ) (k n : ℕ) → n ≤ k → filled_below setting s x (count_from k (n - k)) ≡ s
unfolding filled_below
filled_all setting s x k n past = let none : n - k ≡ 0 = omega arith in ap (λ m. filled_below setting s x (count_from k m)) none

-- ---- sums over touches, in any setting

-- a touch changes the state alone
pub stays_touched : {Code : Type 0} (setting : Setting Code) (k : ℕ) (r s t : Session Code) → OnState r s → Touches setting k s t → OnState r t
unfolding touched
stays_touched setting k r s t stays touches = on_state r s t stays _ (sym touches)

-- what does not change says the setting
pub touched_on : {Code Kept : Type 0} (setting : Kept → Setting Code) (now first : Kept) → now ≡ first → (k : ℕ) (s t : Session Code) → touched (setting now) s k ≡ t → touched (setting first) s k ≡ t
touched_on setting now first same k s t is = ap (λ x. touched (setting x) s k) (sym same) ∙ is

-- a sum so far, and what is still to be touched
abbrev pub sum_from : {Code X : Type 0} → Setting Code → (X → ℕ) → (X → List ℤ → ℤ) → List X → Session Code → ℤ → Session Code × ℤ
sum_from setting block found xs s sum = let rest = summed setting block found xs s in (rest.0, sum +ℤ rest.1)

module _ {Code X : Type 0} (setting : Setting Code) (block : X → ℕ) (found : X → List ℤ → ℤ) where
  pub sum_on : (x : X) (xs : List X) (s t : Session Code) → touched setting s (block x) ≡ t → (sum one more : ℤ) → one ≡ found x (t.state.values (block x)) → more ≡ sum +ℤ one
      → sum_from setting block found (x ∷ xs) s sum ≡ sum_from setting block found xs t more
  unfolding summed
  sum_on x xs s t touches sum one more finds is = search (rules, ints)

  pub sum_starts : (xs : List X) (s : Session Code) → summed setting block found xs s ≡ sum_from setting block found xs s (pos 0)
  sum_starts xs s = let rest = summed setting block found xs s in let none : rest.1 ≡ pos 0 +ℤ rest.1 = omega (arith, ints) in ap (λ y. (rest.0, y)) none

  pub sum_ends : (s : Session Code) (sum : ℤ) → sum_from setting block found [] s sum ≡ (s, sum)
  unfolding summed
  sum_ends s sum = let none : sum +ℤ pos 0 ≡ sum = omega (arith, ints) in ap (λ y. (s, y)) none

-- ---- the places of a block that exist

-- those that lie within its extents
pub within_is : {Code : Type 0} (coding : Coding Code) (ns : List ℕ) (dim b : ℕ) (e : Extent) (vs : List ℤ) → IsShape ns → length ns ≡ dim → IsExtent (length ns) e
    → used_axes (length ns) e.size ≡ extent_of ns b → length vs ≡ 4 ^ dim → within e.size vs ≡ existing_of (array_format coding ns) b vs
unfolding existing_of array_format place_indices
within_is coding ns dim b e vs sizes dims extent used long = search (rules, has_place, map-upto_same)

-- a block has 256 places at most
pub block_room : (ns : List ℕ) (dim : ℕ) → IsShape ns → length ns ≡ dim → (n : ℕ) → n ≡ 4 ^ dim → n ≤ 256
block_room ns dim sizes dims n many = by (length ns) sizes.four_at_most (many ∙ ap (λ d. 4 ^ d) (sym dims))
  where
    by : (d : ℕ) → d ≤ 4 → n ≡ 4 ^ d → n ≤ 256
    by zero four e = omega (arith, e)
    by (suc zero) four e = omega (arith, e)
    by (suc (suc zero)) four e = omega (arith, e)
    by (suc (suc (suc zero))) four e = omega (arith, e)
    by (suc (suc (suc (suc zero)))) four e = omega (arith, e)
    by (suc (suc (suc (suc (suc d))))) four e = absurd (omega arith)

-- a number of 128 bits that is small
pub small_is : (s : ℤ) → IsUpTo (2 ^ 100) s → to_z w128 (of_z w128 s) ≡ s
small_is s small = to_z-of_z w128 s (up_to_fits s small)
