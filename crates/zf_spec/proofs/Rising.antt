-- Places whose keys rise: the order of the places rises, and no other arrangement of them does.
use Rattle.std.proofs.Common.{◌≡◌, refl, sym, ℕ, zero, suc, ◌+◌, ◌^◌, ◌<◌, ◌≤◌, true, false, List, [], ◌∷◌, length, get_or, ◌⊎◌, ⊎_elim, Contains, IsPermutation, arith, rules}
use Rattle.std.{proofs.lemmas.List.Elements.{Contains-get_or}, proofs.lemmas.Bool.{cases_lt, cases_Bool}}
use Rattle.std.proofs.lemmas.List.Sorted.{IsPermutation-refl, IsPermutation-sym, IsPermutation-cons, IsPermutation-trans, IsPermutation-append_left, IsPermutation-append_comm, Contains-permutation}
use Rattle.zf_spec.{specs.Grid.{count_from, places}, proofs.Counting.{count_from_bounds}}
use Rattle.zf_spec.specs.Ranks.{key, comes_before, put_in_order, in_order, order, Rises}
use Rattle.zf_spec.proofs.Order.{comes_before_irrefl, comes_before_trans, places_total}

-- the key of p comes before that of q
abbrev pub IsBefore : ℕ → ℕ → ℕ → Type 0
IsBefore d p q = comes_before (key d p) (key d q) ≡ true

pub not_before_itself : (d p : ℕ) → IsBefore d p p → ⊥
not_before_itself d p h = comes_before_irrefl (key d p) h

pub before_trans : (d p q r : ℕ) → IsBefore d p q → IsBefore d q r → IsBefore d p r
before_trans d p q r f g = comes_before_trans (key d p) (key d q) (key d r) f g

-- ---- what is among a list

pub contains_none : (q : ℕ) → Contains [] q → ⊥
contains_none q h = omega (arith, h.1)

pub contains_cases : (p q : ℕ) (qs : List ℕ) → Contains (p ∷ qs) q → (p ≡ q) ⊎ Contains qs q
contains_cases p q qs h = grind arith

pub contains_head : (p : ℕ) (qs : List ℕ) → Contains (p ∷ qs) p
contains_head p qs = (0, omega arith, refl)

pub contains_tail : (p q : ℕ) (qs : List ℕ) → Contains qs q → Contains (p ∷ qs) q
contains_tail p q qs (k, h, e) = (suc k, omega arith, e)

-- ---- lists that rise

pub rises_rest : (d p : ℕ) (qs : List ℕ) → Rises d (p ∷ qs) → Rises d qs
rises_rest d p qs r = grind arith

-- the first of a rising list comes before all others
pub first_is_before : (d p : ℕ) (qs : List ℕ) (q : ℕ) → Rises d (p ∷ qs) → Contains qs q → IsBefore d p q
first_is_before d p [] q r h = absurd (contains_none q h)
first_is_before d p (s ∷ qs) q r h =
    let next = first_is_before d s qs q r.1 in search (rules, before_trans, contains_cases)

-- in a rising list what stands earlier comes before what stands later
pub earlier_is_before : (d : ℕ) (ps : List ℕ) (i j : ℕ) → Rises d ps → i < j → j < length ps → IsBefore d (get_or ps i 0) (get_or ps j 0)
earlier_is_before d (p ∷ ps) zero (suc j) r f g = first_is_before d p ps (get_or ps j 0) r (Contains-get_or ps j 0 (omega arith))
earlier_is_before d (p ∷ ps) (suc i) (suc j) r f g = earlier_is_before d ps i j (rises_rest d p ps r) (omega arith) (omega arith)
earlier_is_before d ps i j r f g = absurd (omega arith)

-- a rising list has each place once
pub same_place : (d : ℕ) (ps : List ℕ) (i j : ℕ) → Rises d ps → i ≤ j → j < length ps → get_or ps i 0 ≡ get_or ps j 0 → i ≡ j
same_place d ps i j r h l e =
    let never : i < j → ⊥ = λ less. not_before_itself d (get_or ps j 0) (rw e at (earlier_is_before d ps i j r less l)) in search (rules, cases_lt)

-- what is among one rest is among the other, where the heads are equal: no head is among its rest
among_rest : (d p q : ℕ) (ps qs : List ℕ) → Rises d (p ∷ ps) → p ≡ q → ((z : ℕ) → Contains (p ∷ ps) z → Contains (q ∷ qs) z) → (z : ℕ) → Contains ps z → Contains qs z
among_rest d p q ps qs r e h z c =
    let among = contains_cases q z qs (h z (contains_tail p z ps c)) in
    let before = first_is_before d p ps z r c in search (rules, not_before_itself)

-- the first places of two rising lists of the same places are equal
same_first : (d p q : ℕ) (ps qs : List ℕ) → Rises d (p ∷ ps) → Rises d (q ∷ qs) → Contains (q ∷ qs) p → Contains (p ∷ ps) q → p ≡ q
same_first d p q ps qs r s f g =
    let never : Contains qs p → Contains ps q → p ≡ q = λ c k. absurd (not_before_itself d q (before_trans d q p q (first_is_before d q qs p s c) (first_is_before d p ps q r k))) in
    ⊎_elim sym (λ c. ⊎_elim (λ e. e) (never c) (contains_cases p q ps g)) (contains_cases q p qs f)

-- two rising lists of the same places are equal
pub same_rising : (d : ℕ) (ps qs : List ℕ) → Rises d ps → Rises d qs → ((z : ℕ) → Contains ps z → Contains qs z) → ((z : ℕ) → Contains qs z → Contains ps z) → ps ≡ qs
same_rising d [] [] r s f g = refl
same_rising d [] (q ∷ qs) r s f g = absurd (contains_none q (g q (contains_head q qs)))
same_rising d (p ∷ ps) [] r s f g = absurd (contains_none p (f p (contains_head p ps)))
same_rising d (p ∷ ps) (q ∷ qs) r s f g =
    let e = same_first d p q ps qs r s (f p (contains_head p ps)) (g q (contains_head q qs)) in
    let rest = same_rising d ps qs (rises_rest d p ps r) (rises_rest d q qs s) (among_rest d p q ps qs r e f)
    (among_rest d q p qs ps s (sym e) g) in cc

-- ---- the order of the places

put_in_order_moves : (d p : ℕ) (qs : List ℕ) → IsPermutation (p ∷ qs) (put_in_order d p qs)
put_in_order_moves d p [] = IsPermutation-refl (p ∷ [])
put_in_order_moves d p (q ∷ qs) =
    let swapped = IsPermutation-append_left qs (p ∷ q ∷ []) (q ∷ p ∷ [])
    (IsPermutation-append_comm (p ∷ []) (q ∷ [])) in
    let rest = IsPermutation-cons q (p ∷ qs) (put_in_order d p qs) (put_in_order_moves d p qs) in
    search (rules, IsPermutation-refl, IsPermutation-trans)

pub in_order_moves : (d : ℕ) (ps : List ℕ) → IsPermutation ps (in_order d ps)
in_order_moves d [] = IsPermutation-refl []
in_order_moves d (p ∷ ps) =
    let rest = IsPermutation-cons p ps (in_order d ps) (in_order_moves d ps) in IsPermutation-trans _ _ _ rest (put_in_order_moves d p (in_order d ps))

-- to put in order behind a place that comes before
put_behind : (d p q : ℕ) (qs : List ℕ) → Rises d (q ∷ qs) → IsBefore d q p → ((s : ℕ) → Contains qs s → comes_before (key d p) (key d s) ≡ false → IsBefore d s p) → Rises d (q ∷ put_in_order d p qs)
put_behind d p q [] r h total = (h, tt)
put_behind d p q (s ∷ qs) r h total = ⊎_elim
    (λ e. rw e (h, (e, r.1)))
    (λ e. rw e (r.0, put_behind d p s qs r.1 (total s (contains_head s qs) e) (λ x c. total x (contains_tail s x qs c))))
    (cases_Bool (comes_before (key d p) (key d s)))

put_in_order_rises : (d p : ℕ) (qs : List ℕ) → Rises d qs → ((s : ℕ) → Contains qs s → comes_before (key d p) (key d s) ≡ false → IsBefore d s p) → Rises d (put_in_order d p qs)
put_in_order_rises d p [] r total = tt
put_in_order_rises d p (q ∷ qs) r total = ⊎_elim
    (λ e. rw e (e, r))
    (λ e. rw e (put_behind d p q qs r (total q (contains_head q qs) e) (λ x c. total x (contains_tail q x qs c))))
    (cases_Bool (comes_before (key d p) (key d q)))

in_order_rises : (d k n : ℕ) → k + n ≤ 4 ^ d → Rises d (in_order d (count_from k n))
in_order_rises d k zero h = tt
in_order_rises d k (suc n) h =
    put_in_order_rises d k (in_order d (count_from (suc k) n)) (in_order_rises d (suc k) n (omega arith))
    (λ s c e.
    let among = Contains-permutation (in_order d (count_from (suc k) n)) (count_from (suc k) n) s (IsPermutation-sym (count_from (suc k) n) (in_order d (count_from (suc k) n)) (in_order_moves d (count_from (suc k) n))) c in
    let bounds = count_from_bounds (suc k) n s among in
    places_total d k s (omega arith) (omega arith) (λ same. omega arith) e)

pub order_moves : (d : ℕ) → IsPermutation (places d) (order d)
order_moves d = in_order_moves d (places d)

pub order_rises : (d : ℕ) → Rises d (order d)
order_rises d = in_order_rises d 0 (4 ^ d) (omega arith)

-- the order is the only arrangement of the places that rises
pub order_only : (d : ℕ) (ps : List ℕ) → IsPermutation (places d) ps → Rises d ps → ps ≡ order d
order_only d ps m r =
    let there = IsPermutation-trans ps (places d) (order d) (IsPermutation-sym (places d) ps m) (order_moves d) in
    same_rising d ps (order d) r (order_rises d) (λ z c. Contains-permutation ps (order d) z there c) (λ z c. Contains-permutation (order d) ps z (IsPermutation-sym ps (order d) there) c)
