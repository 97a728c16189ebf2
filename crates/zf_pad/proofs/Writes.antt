-- A loop over places, each of which writes one element of a list, or none.
use Rattle.std.proofs.Common.{rules, ◌≡◌, ◌≢◌, ℕ, zero, suc, ◌+◌, ◌-◌, ◌<◌, ◌≤◌, Bool, true, false, ℤ, pos, List, length, get_or, set, refl, sym, ap, subst, ◌∙◌, ⊎_elim, arith, get_or-set_same, get_or-set_other}
use Rattle.std.proofs.lemmas.Bool.{cases_lt, false≢true}

-- after the places below n: a place that is to write wrote its value at its index, and all other elements are as they were
pub record IsWritten (writes : ℕ → Bool) (index : ℕ → ℕ) (value : ℕ → ℤ) (old now : List ℤ) (n : ℕ) : Type 0 where
  pub written : (p : ℕ) → p < n → writes p ≡ true → get_or now (index p) (pos 0) ≡ value p
  pub others : (i : ℕ) → ((p : ℕ) → p < n → writes p ≡ true → index p ≢ i) → get_or now i (pos 0) ≡ get_or old i (pos 0)

module _ (writes : ℕ → Bool) (index : ℕ → ℕ) (value : ℕ → ℤ) (old : List ℤ) where
  pub written_none : IsWritten writes index value old old 0
  written_none = record { written = λ p lt w. absurd (omega arith); others = λ i free. refl }

  -- a place below n + 1 is below n, or n
  before_or_at : (n p : ℕ) (P : Type 0) → p < n + 1 → (p < n → P) → (p ≡ n → P) → P
  before_or_at n p P lt f g = ⊎_elim f (λ ge. g (omega arith)) (cases_lt p n)

  -- place n writes, at an index at which no place before it did
  pub written_more : (now : List ℤ) (n : ℕ) (v : ℤ) → writes n ≡ true → index n < length now → ((p : ℕ) → p < n → writes p ≡ true → index p ≢ index n) → v ≡ value n → IsWritten writes index value old now n → IsWritten writes index value old (set now (index n) v) (n + 1)
  written_more now n v w inside new is h = search (rules, before_or_at, get_or-set_other, get_or-set_same)

  -- place n does not write
  pub written_skip : (now : List ℤ) (n : ℕ) → writes n ≡ false → IsWritten writes index value old now n → IsWritten writes index value old now (n + 1)
  written_skip now n w h = search (rules, before_or_at, false≢true)

  -- nor does any of the next m places
  pub written_skip_all : (now : List ℤ) (n m : ℕ) → ((k : ℕ) → k < m → writes (n + k) ≡ false) → IsWritten writes index value old now n → IsWritten writes index value old now (n + m)
  written_skip_all now n zero none h = subst (IsWritten writes index value old now) (omega arith) h
  written_skip_all now n (suc m) none h =
      subst (IsWritten writes index value old now) (omega arith)
      (written_skip now (n + m) (none m (omega arith)) (written_skip_all now n m (λ k lt. none k (omega arith)) h))

  -- the next m places write, at indices that stand beside one another
  pub written_row : (now new : List ℤ) (n m first : ℕ) → ((k : ℕ) → k < m → writes (n + k) ≡ true) → ((k : ℕ) → k < m → index (n + k) ≡ first + k)
      → ((p k : ℕ) → p < n → k < m → writes p ≡ true → index p ≢ index (n + k))
      → ((k : ℕ) → k < m → get_or new (first + k) (pos 0) ≡ value (n + k))
      → ((i : ℕ) → ((k : ℕ) → k < m → i ≢ first + k) → get_or new i (pos 0) ≡ get_or now i (pos 0))
      → IsWritten writes index value old now n → IsWritten writes index value old new (n + m)
  written_row now new n m first all at apart put same h = record {
    written = λ p lt w. ⊎_elim
        (λ (before : p < n). same (index p) (λ k small e. apart p k before small w (e ∙ sym (at k small))) ∙ h.written p before w)
        (λ (later : n ≤ p).
        let small : p - n < m = omega arith in
        let back : n + (p - n) ≡ p = omega arith in
        ap (λ q. get_or new (index q) (pos 0)) (sym back) ∙ ap (λ i. get_or new i (pos 0)) (at (p - n) small) ∙ put (p - n) small ∙ ap value back)
        (cases_lt p n);
    others = λ i free. same i (λ k small e. free (n + k) (omega arith) (all k small) (at k small ∙ sym e)) ∙ h.others i (λ p lt w. free p (omega arith) w);
  }
