-- What a budget keeps of the digits from some rank on, by cases.
use Rattle.std.proofs.Common.{rules, ◌≡◌, refl, ap, ◌∙◌, ℕ, zero, suc, ◌+◌, ◌-◌, ◌<◌, ◌≤◌, Bool, true, false, cond, ltb, lt-ltb, List, [], ◌∷◌, ◌++◌, length, replicate, arith}
use Rattle.std.{proofs.lemmas.Bool.{and_right}, proofs.lemmas.List.{length-append, length-replicate}}
use Rattle.zf_spec.{specs.Planes.{has_one}, specs.Kept.{zeros, kept_run, kept_tail}}
use Rattle.zf_spec.proofs.Reach.{has_one-append_one}

-- ---- nothing is kept

pub kept_tail-none : (ds : List Bool) → kept_tail 0 ds ≡ replicate (length ds) false
kept_tail-none ds = refl

pub kept_tail-zeros : (r : ℕ) (ds : List Bool) → has_one ds ≡ false → kept_tail r ds ≡ replicate (length ds) false
kept_tail-zeros r ds h = ap (λ t. cond t (kept_run (r - 1) ds) (zeros ds)) (and_right (ltb 0 r) (has_one ds) h)

-- a group whose bit is kept and is one has what is kept of its run
pub kept_tail-one : (r : ℕ) (ds : List Bool) → 1 ≤ r → has_one ds ≡ true → kept_tail r ds ≡ kept_run (r - 1) ds
kept_tail-one r ds h one = cc (lt-ltb 0 r h)

kept_tail-some : (r j : ℕ) (rest : List Bool) → 1 ≤ r → kept_tail r (replicate j false ++ true ∷ rest) ≡ kept_run (r - 1) (replicate j false ++ true ∷ rest)
kept_tail-some r j rest h = kept_tail-one r (replicate j false ++ true ∷ rest) h (has_one-append_one (replicate j false) rest)

-- ---- the run of the first one, where something follows

kept_run-whole : (s j : ℕ) (e : Bool) (rest : List Bool) → kept_run (suc j + s) (replicate j false ++ true ∷ e ∷ rest) ≡ replicate j false ++ true ∷ kept_tail s (e ∷ rest)
kept_run-whole s (suc (suc j)) e rest =
    let n : suc (suc (suc j)) + s ≡ suc (suc (suc j) + s) = omega arith in
    rw n (ap (λ ds. false ∷ ds) (kept_run-whole s (suc j) e rest))
kept_run-whole s j e rest = search rules

kept_run-cut : (s j : ℕ) (e : Bool) (rest : List Bool) → s ≤ j → kept_run s (replicate j false ++ true ∷ e ∷ rest) ≡ replicate s false ++ true ∷ replicate (suc (j - s) + length rest) false
kept_run-cut zero zero e rest h = ap (λ n. true ∷ replicate n false) (let n : suc (length rest) ≡ suc (zero - zero) + length rest = omega arith in n)
kept_run-cut zero (suc j) e rest h = search (rules, length-append, length-replicate)
kept_run-cut (suc s) zero e rest h = absurd (omega arith)
kept_run-cut (suc s) (suc zero) e rest h =
    let n : suc (zero - s) + length rest ≡ suc (suc zero - suc s) + length rest = omega arith in let next = kept_run-cut s zero e rest (omega arith) in cc
kept_run-cut (suc s) (suc (suc j)) e rest h =
    let n : suc (suc j - s) + length rest ≡ suc (suc (suc j) - suc s) + length rest = omega arith in let next = kept_run-cut s (suc j) e rest (omega arith) in cc

-- its j + 2 bits are left: it is kept, and what follows has the others
pub kept_tail-whole : (r j : ℕ) (e : Bool) (rest : List Bool) → j + 2 ≤ r → kept_tail r (replicate j false ++ true ∷ e ∷ rest) ≡ replicate j false ++ true ∷ kept_tail (r - (j + 2)) (e ∷ rest)
kept_tail-whole r j e rest h = grind (arith, kept_tail-some r j (e ∷ rest) (omega arith), kept_run-whole (r - (j + 2)) j e rest)

-- some are left, but less: a one stands where it is cut
pub kept_tail-cut : (r j : ℕ) (e : Bool) (rest : List Bool) → 1 ≤ r → r < j + 2 → kept_tail r (replicate j false ++ true ∷ e ∷ rest) ≡ replicate (r - 1) false ++ true ∷ replicate (j + 2 - r + length rest) false
kept_tail-cut r j e rest f g = search (rules, kept_tail-some, kept_run-cut)

-- ---- the run of the last rank

kept_run-last : (s j : ℕ) → kept_run (j + s) (replicate j false ++ true ∷ []) ≡ replicate j false ++ true ∷ []
kept_run-last zero zero = refl
kept_run-last s (suc (suc j)) =
    let n : suc (suc j) + s ≡ suc (suc j + s) = omega arith in
    rw n (ap (λ ds. false ∷ ds) (kept_run-last s (suc j)))
kept_run-last s j = search rules

kept_run-last_cut : (s j : ℕ) → s < j → kept_run s (replicate j false ++ true ∷ []) ≡ replicate s false ++ true ∷ replicate (j - s) false
kept_run-last_cut zero (suc j) h = search (rules, length-append, length-replicate)
kept_run-last_cut (suc s) (suc (suc j)) h =
    let n : suc j - s ≡ suc (suc j) - suc s = omega arith in
    ap (λ ds. false ∷ ds) (kept_run-last_cut s (suc j) (omega arith) ∙ ap (λ n. replicate s false ++ true ∷ replicate n false) n)
kept_run-last_cut s j h = absurd (omega arith)

-- its j + 1 bits are left, since the one of the last rank is implied
pub kept_tail-last : (r j : ℕ) → j + 1 ≤ r → kept_tail r (replicate j false ++ true ∷ []) ≡ replicate j false ++ true ∷ []
kept_tail-last r j h = grind (arith, kept_tail-some r j [] (omega arith), kept_run-last (r - (j + 1)) j)

pub kept_tail-last_cut : (r j : ℕ) → 1 ≤ r → r < j + 1 → kept_tail r (replicate j false ++ true ∷ []) ≡ replicate (r - 1) false ++ true ∷ replicate (j + 1 - r) false
kept_tail-last_cut r j f g = search (rules, kept_tail-some, kept_run-last_cut)
