-- The place of each rank and the rank of each place, and a block by rank and by place.
use Rattle.std.proofs.Common.{rules, ◌≡◌, refl, sym, ◌∙◌, ℕ, zero, suc, ◌^◌, ◌<◌, ◌≤◌, eqb, eqb-true, ℤ, pos, List, [], ◌∷◌, length, get_or, Contains, ext_get_or, arith}
use Rattle.std.{proofs.lemmas.Bool.{eqb-false}, proofs.lemmas.List.{length-map, get_or-map}}
use Rattle.std.{proofs.lemmas.List.Elements.{Contains-get_or}, specs.List.{position_or_len}}
use Rattle.std.proofs.lemmas.List.Sorted.{IsPermutation-sym, Contains-permutation, length_permutation}
use Rattle.zf_spec.{specs.Grid.{places}, specs.Ranks.{order, by_rank, by_place}}
use Rattle.zf_spec.proofs.Counting.{count_from_bounds, Contains-count_from, length-upto, from_places, get_or-map-upto, length-map-upto}
use Rattle.zf_spec.proofs.Rising.{contains_cases, contains_none, same_place, order_moves, order_rises}

-- the first place at which p stands, among a list that has it
pub position_of : (p : ℕ) (ps : List ℕ) → Contains ps p → (position_or_len (λ q. eqb q p) ps < length ps) × (get_or ps (position_or_len (λ q. eqb q p) ps) 0 ≡ p)
position_of p [] h = absurd (contains_none p h)
position_of p (q ∷ ps) h = let next = position_of p ps in search (rules, eqb-true, eqb-false, contains_cases)

-- nothing before the first place is p
pub position_first : (p : ℕ) (ps : List ℕ) (k : ℕ) → k < length ps → get_or ps k 0 ≡ p → position_or_len (λ q. eqb q p) ps ≤ k
position_first p [] k h e = absurd (omega arith)
position_first p (q ∷ ps) zero h e = search (rules, eqb-false)
position_first p (q ∷ ps) (suc k) h e = let next = position_first p ps k (omega arith) e in search rules

-- ---- the order

-- the rank of a place
abbrev pub rank_of : ℕ → ℕ → ℕ
rank_of d p = position_or_len (λ q. eqb q p) (order d)

pub length-order : (d : ℕ) → length (order d) ≡ 4 ^ d
length-order d = length_permutation (places d) (order d) (order_moves d) ∙ length-upto (4 ^ d)

-- each rank has a place of the block
pub order_below : (d k : ℕ) → k < 4 ^ d → get_or (order d) k 0 < 4 ^ d
order_below d k h =
    let among = Contains-get_or (order d) k 0 (omega (arith, h, length-order d)) in
    let bounds = count_from_bounds 0 (4 ^ d) (get_or (order d) k 0) (Contains-permutation (order d) (places d) (get_or (order d) k 0) (IsPermutation-sym (places d) (order d) (order_moves d)) among) in
    omega (arith, bounds.1)

order_has : (d p : ℕ) → p < 4 ^ d → Contains (order d) p
order_has d p h = Contains-permutation (places d) (order d) p (order_moves d) (Contains-count_from 0 (4 ^ d) p (omega arith) (omega arith))

-- each place of the block has a rank
pub rank_of_below : (d p : ℕ) → p < 4 ^ d → rank_of d p < 4 ^ d
rank_of_below d p h = omega (arith, (position_of p (order d) (order_has d p h)).0, length-order d)

pub order-rank_of : (d p : ℕ) → p < 4 ^ d → get_or (order d) (rank_of d p) 0 ≡ p
order-rank_of d p h = (position_of p (order d) (order_has d p h)).1

pub rank_of-order : (d k : ℕ) → k < 4 ^ d → rank_of d (get_or (order d) k 0) ≡ k
rank_of-order d k h =
    let p = get_or (order d) k 0 in
    let small : k < length (order d) = omega (arith, h, length-order d) in
    same_place d (order d) (rank_of d p) k (order_rises d) (position_first p (order d) k small refl) small (order-rank_of d p (order_below d k h))

-- ---- blocks

pub length-by_rank : (d : ℕ) (block : List ℤ) → length (by_rank d block) ≡ 4 ^ d
length-by_rank d block = length-map (order d) (λ p. get_or block p (pos 0)) ∙ length-order d

pub length-by_place : (d : ℕ) (values : List ℤ) → length (by_place d values) ≡ 4 ^ d
length-by_place d values = length-map-upto (λ p. get_or values (rank_of d p) (pos 0)) (4 ^ d)

pub get_or-by_rank : (d : ℕ) (block : List ℤ) (k : ℕ) → k < 4 ^ d → get_or (by_rank d block) k (pos 0) ≡ get_or block (get_or (order d) k 0) (pos 0)
get_or-by_rank d block k h = get_or-map (λ p. get_or block p (pos 0)) (order d) k 0 (pos 0) (omega (arith, h, length-order d))

pub get_or-by_place : (d : ℕ) (values : List ℤ) (p : ℕ) → p < 4 ^ d → get_or (by_place d values) p (pos 0) ≡ get_or values (rank_of d p) (pos 0)
get_or-by_place d values p h = get_or-map-upto (λ p. get_or values (rank_of d p) (pos 0)) (4 ^ d) p (pos 0) h

pub by_place-by_rank : (d : ℕ) (block : List ℤ) → length block ≡ 4 ^ d → by_place d (by_rank d block) ≡ block
by_place-by_rank d block l =
    from_places (λ p. get_or (by_rank d block) (rank_of d p) (pos 0)) (4 ^ d) (pos 0) block l (λ p h. search (rules, get_or-by_rank, rank_of_below, order-rank_of))

pub by_rank-by_place : (d : ℕ) (values : List ℤ) → length values ≡ 4 ^ d → by_rank d (by_place d values) ≡ values
by_rank-by_place d values l =
    let e = length-by_rank d (by_place d values) in
    ext_get_or (pos 0) (by_rank d (by_place d values)) values (e ∙ sym l)
    (λ k s. let h : k < 4 ^ d = omega (arith, s, e) in cc (get_or-by_rank d (by_place d values) k h, get_or-by_place d values (get_or (order d) k 0) (order_below d k h), rank_of-order d k h))
