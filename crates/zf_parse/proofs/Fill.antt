-- The fill behind the codes of a stream.
use Rattle.std.proofs.Common.{◌≡◌, ◌≢◌, ℕ, ◌-◌, ◌<◌, ◌≤◌, ◌%◌, Bool, true, false, cond, List, [], ◌∷◌, ◌++◌, length, length-append, take, Result, Ok, Err, nat_lt, refl, sym, ap, ◌∙◌, arith}
use Rattle.std.{proofs.lemmas.Bool.{lt-ltb, le-ltb}, proofs.lemmas.List.{take-append-le}}
use Rattle.zf_spec.{specs.Grid.{blocks}, specs.Numbers.{number}, specs.Planes.{has_one}}
use Rattle.zf_header.specs.declared.header.Header.{Header}
use Rattle.zf_parse.{specs.declared.fault.StreamFault.{StreamFault}, specs.Parsing.{fill_answer}}
use Rattle.zf_parse.specs.declared.fault.StreamFault.TheVariants.{Truncated, Pad, Trailing}

-- a number is zero just where no bit is one
no_one : (bs : List Bool) → number bs ≡ 0 → has_one bs ≡ false
no_one [] e = refl
no_one (true ∷ bs) e = absurd (omega arith)
no_one (false ∷ bs) e = no_one bs (omega arith)

some_one : (bs : List Bool) → number bs ≢ 0 → has_one bs ≡ true
some_one [] n = absurd (n refl)
some_one (true ∷ bs) n = refl
some_one (false ∷ bs) n = some_one bs (λ e. n (omega arith))

-- the four answers
answer_by : Header → ℕ → List Bool → Bool → Bool → Bool → Result (Unit {0}) StreamFault
answer_by h n s short one more = cond short (Err (Truncated (blocks h.shape))) (cond one (Err Pad) (cond more (Err Trailing) (Ok tt)))

answer_is : (h : Header) (used n : ℕ) (s : List Bool) → n ≡ (64 - used % 64) % 64 → fill_answer h used s ≡ answer_by h n s (nat_lt (length s) n) (has_one (take n s)) (nat_lt n (length s))
unfolding answer_by
answer_is h used n s is = cc

pub fill_short : (h : Header) (used n : ℕ) (s : List Bool) → n ≡ (64 - used % 64) % 64 → length s < n → Err (Truncated (blocks h.shape)) ≡ fill_answer h used s
unfolding answer_by
fill_short h used n s is short =
    sym (answer_is h used n s is ∙ ap (λ t. answer_by h n s t (has_one (take n s)) (nat_lt n (length s))) (lt-ltb _ _ short))

pub fill_one : (h : Header) (used n : ℕ) (s : List Bool) → n ≡ (64 - used % 64) % 64 → n ≤ length s → number (take n s) ≢ 0 → Err Pad ≡ fill_answer h used s
unfolding answer_by
fill_one h used n s is within one = grind (arith, answer_is h used n s is, some_one (take n s) one)

pub fill_more : (h : Header) (used n : ℕ) (s : List Bool) → n ≡ (64 - used % 64) % 64 → n < length s → number (take n s) ≡ 0 → Err Trailing ≡ fill_answer h used s
unfolding answer_by
fill_more h used n s is more none = grind (arith, answer_is h used n s is, no_one (take n s) none)

pub fill_good : (h : Header) (used n : ℕ) (s : List Bool) → n ≡ (64 - used % 64) % 64 → n ≡ length s → number (take n s) ≡ 0 → Ok tt ≡ fill_answer h used s
unfolding answer_by
fill_good h used n s is all none = grind (arith, answer_is h used n s is, no_one (take n s) none)

-- only the place in the last word counts
pub fill_place : (h : Header) (a b : ℕ) (s : List Bool) → a % 64 ≡ b % 64 → fill_answer h a s ≡ fill_answer h b s
fill_place h a b s same = cc

-- 64 bits tell what all tell
pub fill_told : (h : Header) (used : ℕ) (s more : List Bool) → 64 ≤ length s → fill_answer h used (s ++ more) ≡ fill_answer h used s
fill_told h used s more enough =
    let n = (64 - used % 64) % 64 in
    let within : n ≤ length s = omega arith in
    let longer = length-append s more in
    cc (
      le-ltb (length (s ++ more)) n (omega (arith, longer)),
      le-ltb (length s) n within,
      take-append-le n s more within,
      lt-ltb n (length (s ++ more)) (omega (arith, longer)),
      lt-ltb n (length s) (omega arith),
    )

-- so many are never all
not_good : (h : Header) (n : ℕ) (s : List Bool) (one : Bool) → answer_by h n s false one true ≢ Ok tt
unfolding answer_by
not_good h n s true e = absurd cc
not_good h n s false e = absurd cc

pub fill_not_good : (h : Header) (used : ℕ) (s : List Bool) → 64 ≤ length s → fill_answer h used s ≢ Ok tt
fill_not_good h used s enough good =
    let n = (64 - used % 64) % 64 in
    not_good h n s (has_one (take n s))
    (cc (le-ltb (length s) n (omega arith), lt-ltb n (length s) (omega arith), answer_is h used n s refl))
