-- Lists of bits that begin a list continued with zeros.
use Rattle.std.proofs.Common.{◌≡◌, refl, sym, ap, subst, ℕ, zero, suc, ◌-◌, ◌≤◌, Bool, List, [], ◌∷◌, ◌++◌, length, take, drop, arith, rules, append-nil, take_all}
use Rattle.std.proofs.Math.Seq.{drop-nil}
use Rattle.zf_spec.specs.ReadPlanes.{Begins, first_bits}

pub length-first_bits : (n : ℕ) (s : List Bool) → length (first_bits n s) ≡ n
length-first_bits zero s = refl
length-first_bits (suc n) s = let rest = length-first_bits n in search rules

pub first_begins : (n : ℕ) (s : List Bool) → Begins (first_bits n s) s
first_begins zero s = tt
first_begins (suc n) s = let rest = first_begins n in search rules

-- bits that begin s are its first bits
pub begins_is_first : (bits s : List Bool) → Begins bits s → bits ≡ first_bits (length bits) s
begins_is_first [] s h = refl
begins_is_first (b ∷ bits) s h = let rest = begins_is_first bits in search rules

pub begins_from_first : (bits s : List Bool) → bits ≡ first_bits (length bits) s → Begins bits s
begins_from_first bits s e = subst (λ cs. Begins cs s) (sym e) (first_begins (length bits) s)

-- what begins in two parts
pub begins_append : (a b s : List Bool) → Begins a s → Begins b (drop (length a) s) → Begins (a ++ b) s
begins_append [] b s f g = g
begins_append (x ∷ a) b s f g = let rest = begins_append a b in search (rules, drop-nil)

pub begins_prefix : (a b s : List Bool) → Begins (a ++ b) s → Begins a s
begins_prefix [] b s h = tt
begins_prefix (x ∷ a) b s h = let rest = begins_prefix a b in search rules

pub begins_rest : (a b s : List Bool) → Begins (a ++ b) s → Begins b (drop (length a) s)
begins_rest [] b s h = h
begins_rest (x ∷ a) b s h = let rest = begins_rest a b in search (rules, drop-nil)

-- a list begins each list that goes on with it
pub begins_itself : (a b : List Bool) → Begins a (a ++ b)
begins_itself [] b = tt
begins_itself (x ∷ a) b = (refl, begins_itself a b)

-- the first n bits are the first n of any more
pub first_bits-first_bits : (m n : ℕ) (s : List Bool) → m ≤ n → first_bits m (first_bits n s) ≡ first_bits m s
first_bits-first_bits zero n s h = refl
first_bits-first_bits (suc m) zero s h = absurd (omega arith)
first_bits-first_bits (suc m) (suc n) s h = let rest = first_bits-first_bits m n in search rules

pub first_bits-append : (a b : List Bool) (n : ℕ) → n ≤ length a → first_bits n (a ++ b) ≡ take n a
first_bits-append a b zero h = refl
first_bits-append [] b (suc n) h = absurd (omega arith)
first_bits-append (x ∷ a) b (suc n) h = ap (λ bs. x ∷ bs) (first_bits-append a b n (omega arith))

-- lists that agree in their first n bits agree past a prefix of both
pub first_bits-rest : (a b c : List Bool) (n : ℕ) → length a ≤ n → first_bits n (a ++ b) ≡ first_bits n (a ++ c) → first_bits (n - length a) b ≡ first_bits (n - length a) c
first_bits-rest [] b c n h e = let z : n - 0 ≡ n = omega arith in rw z e
first_bits-rest (x ∷ a) b c zero h e = absurd (omega arith)
first_bits-rest (x ∷ a) b c (suc n) h e =
    let z : suc n - suc (length a) ≡ n - length a = omega arith in rw z (first_bits-rest a b c n (omega arith) cc)

-- past the first n bits a list does not count
pub first_bits-prefix : (a b : List Bool) (n : ℕ) → n ≤ length a → first_bits n (a ++ b) ≡ first_bits n a
first_bits-prefix a b n h = cc (first_bits-append a b n h, first_bits-append a [] n h, append-nil a)

pub first_bits-all : (a b : List Bool) → first_bits (length a) (a ++ b) ≡ a
first_bits-all a b = search (rules, first_bits-append, take_all)
