-- Four values written to a list at the places of a line.
use Rattle.std.proofs.Common.{◌≡◌, ◌≢◌, ℕ, ◌+◌, ◌*◌, ◌<◌, ℤ, pos, List, [], ◌∷◌, map, length, get_or, set, sym, ap, ◌∙◌, arith, rules}
use Rattle.std.proofs.lemmas.List.{map-set, length-set, get_or-set_same, get_or-set_other, length-map, get_or-map}
use Rattle.zf_axes.specs.Lines.{member, MapsLine}

-- a list with four values in place of those of one line
abbrev pub written : {X : Type 0} → List X → ℕ → ℕ → X → X → X → X → List X
written xs start step a b c d = set (set (set (set xs start a) (start + step) b) (start + 2 * step) c) (start + 3 * step) d

map-written : {X : Type 0} (f : X → ℤ) (xs : List X) (start step : ℕ) (a b c d : X) → map f (written xs start step a b c d) ≡ written (map f xs) start step (f a) (f b) (f c) (f d)
map-written f xs start step a b c d = search (rules, map-set)

length-written : (block : List ℤ) (start step : ℕ) (a b c d : ℤ) → length (written block start step a b c d) ≡ length block
length-written block start step a b c d = simp length-set

-- each of the four places holds what was written there
member-written : (block : List ℤ) (start step k : ℕ) (a b c d : ℤ) → 0 < step → start + 3 * step < length block → k < 4
    → member (written block start step a b c d) start step k ≡ get_or (a ∷ b ∷ c ∷ d ∷ []) k (pos 0)
member-written block start step k a b c d some inside small = search (rules, length-set, get_or-set_other, get_or-set_same)

-- and no other place has changed
other-written : (block : List ℤ) (start step p : ℕ) (a b c d : ℤ) → ((k : ℕ) → k < 4 → p ≢ start + step * k) → get_or (written block start step a b c d) p (pos 0) ≡ get_or block p (pos 0)
other-written block start step p a b c d none =
    let one = set block start a in
    let two = set one (start + step) b in
    let three = set two (start + 2 * step) c in
    get_or-set_other three (start + 3 * step) p d (pos 0) (λ e. none 3 (omega arith) (omega arith))
    ∙ get_or-set_other two (start + 2 * step) p c (pos 0) (λ e. none 2 (omega arith) (omega arith))
    ∙ get_or-set_other one (start + step) p b (pos 0) (λ e. none 1 (omega arith) (omega arith))
    ∙ get_or-set_other block start p a (pos 0) (λ e. none 0 (omega arith) (omega arith))

-- the number of a value that was read
read_value : {X : Type 0} (f : X → ℤ) (xs : List X) (i j : ℕ) (x : X) → i < length xs → x ≡ get_or xs i x → j ≡ i → get_or (map f xs) j (pos 0) ≡ f x
read_value f xs i j x inside read e = ap (λ k. get_or (map f xs) k (pos 0)) e ∙ get_or-map f xs i x (pos 0) inside ∙ ap f (sym read)

-- four values are read along a line, and what a map of lines makes of their numbers is written
pub MapsLine-written : {X : Type 0} (f : X → ℤ) (g : ℤ → ℤ → ℤ → ℤ → List ℤ) (start step : ℕ) (xs : List X) (x y z w a b c d : X) → 0 < step → start + 3 * step < length xs
    → x ≡ get_or xs start x → y ≡ get_or xs (start + step) y → z ≡ get_or xs (start + 2 * step) z → w ≡ get_or xs (start + 3 * step) w
    → f a ∷ f b ∷ f c ∷ f d ∷ [] ≡ g (f x) (f y) (f z) (f w)
    → MapsLine g start step (map f xs) (map f (written xs start step a b c d))
MapsLine-written f g start step xs x y z w a b c d some inside rx ry rz rw' is =
    let values = map f xs in search (rules, length-map, read_value, map-written, length-written, member-written, other-written)
