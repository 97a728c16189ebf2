-- The order of keys: it is strict, any two keys of one length are in it, and a place is known by its key.
use Rattle.std.proofs.Common.{rules, ◌≡◌, refl, ap, ◌∙◌, ℕ, zero, suc, ◌-◌, ◌/◌, ◌%◌, ◌^◌, ◌<◌, true, false, ◌&&◌, eqb, ltb, eqb-true, ltb-true, lt-ltb, eq-eqb, List, [], ◌∷◌, map, length, ◌⊎◌, inl, ⊎_elim, arith}
use Rattle.std.proofs.lemmas.Bool.{or_cases, and_parts, or_left, or_right, and_from, cases_order, true≢false}
use Rattle.std.proofs.lemmas.List.{length-map}
use Rattle.zf_spec.{specs.Grid.{indices}, specs.Ranks.{key, comes_before}, proofs.Raster.{length-indices}}

-- what it is that one key comes before another
comes_before_cases : (a b : ℕ) (as' bs : List ℕ) → comes_before (a ∷ as') (b ∷ bs) ≡ true → (a < b) ⊎ ((a ≡ b) × (comes_before as' bs ≡ true))
comes_before_cases a b as' bs h = search (rules, ltb-true, and_parts, eqb-true, or_cases)

comes_before_less : (a b : ℕ) (as' bs : List ℕ) → a < b → comes_before (a ∷ as') (b ∷ bs) ≡ true
comes_before_less a b as' bs h = or_left (ltb a b) (eqb a b && comes_before as' bs) (lt-ltb a b h)

comes_before_same : (a b : ℕ) (as' bs : List ℕ) → a ≡ b → comes_before as' bs ≡ true → comes_before (a ∷ as') (b ∷ bs) ≡ true
comes_before_same a b as' bs e h = or_right (ltb a b) (eqb a b && comes_before as' bs) (and_from (eqb a b) (comes_before as' bs) (eq-eqb a b e) h)

pub comes_before_irrefl : (as' : List ℕ) → comes_before as' as' ≡ true → ⊥
comes_before_irrefl [] h = cc
comes_before_irrefl (a ∷ as') h = ⊎_elim (λ l. omega arith) (λ p. comes_before_irrefl as' p.1) (comes_before_cases a a as' as' h)

pub comes_before_trans : (as' bs cs : List ℕ) → comes_before as' bs ≡ true → comes_before bs cs ≡ true → comes_before as' cs ≡ true
comes_before_trans (a ∷ as') (b ∷ bs) (c ∷ cs) f g =
    let next = comes_before_trans as' bs cs in
    let first = comes_before_cases a b as' bs f in
    let second = comes_before_cases b c bs cs g in
    search (rules, comes_before_less, comes_before_same)
comes_before_trans as' bs cs f g = cc

-- of two lists of one length one comes before the other, or they are equal
pub comes_before_total : (as' bs : List ℕ) → length as' ≡ length bs → (as' ≡ bs) ⊎ ((comes_before as' bs ≡ true) ⊎ (comes_before bs as' ≡ true))
comes_before_total [] [] l = inl refl
comes_before_total (a ∷ as') (b ∷ bs) l =
    let next = comes_before_total as' bs (omega arith) in
    let order = cases_order a b in
    search (rules, comes_before_less, comes_before_same)
comes_before_total as' bs l = cc

-- ---- the keys of places

length-key : (d p : ℕ) → length (key d p) ≡ suc (suc d)
length-key d p = ap (λ n. suc (suc n)) (length-map (indices d p) (λ i. 3 - i) ∙ length-indices d p)

-- the indices, each taken from 3, are those of one place
place_from_indices : (d p q : ℕ) → p < 4 ^ d → q < 4 ^ d → map (λ i. 3 - i) (indices d p) ≡ map (λ i. 3 - i) (indices d q) → p ≡ q
place_from_indices zero p q f g e = omega arith
place_from_indices (suc d) p q f g e =
    let first : 3 - p % 4 ≡ 3 - q % 4 = cc in
    let rest = place_from_indices d (p / 4) (q / 4) (omega arith) (omega arith) cc in omega arith

pub place_from_key : (d p q : ℕ) → p < 4 ^ d → q < 4 ^ d → key d p ≡ key d q → p ≡ q
place_from_key d p q f g e = place_from_indices d p q f g (cc)

-- of two places one comes before the other
pub places_total : (d p q : ℕ) → p < 4 ^ d → q < 4 ^ d → (p ≡ q → ⊥) → comes_before (key d p) (key d q) ≡ false → comes_before (key d q) (key d p) ≡ true
places_total d p q f g apart h = search (rules, place_from_key, true≢false, comes_before_total, length-key)
