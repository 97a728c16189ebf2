-- A code that is cut behind its last bit reads the same, and so it does with any bits behind it.
use Rattle.std.proofs.Common.{◌≡◌, sym, ap, subst, ◌∙◌, ℕ, ◌+◌, ◌^◌, ◌≤◌, Bool, true, false, cond, ltb, ℤ, Option, Some, None, List, [], ◌++◌, length, take, drop, length-drop, take-take, arith, rules}
use Rattle.std.{specs.Int.{Width}, proofs.lemmas.Bool.{le-ltb, ltb-false}}
use Rattle.std.proofs.lemmas.List.{append-nil, length-take-le, drop-take}
use Rattle.zf_spec.{specs.Numbers.{number}, specs.Planes.{code}, specs.Lorenzo.{unlorenzo}}
use Rattle.zf_spec.specs.ReadPlanes.{Begins, first_bits, planes_in}
use Rattle.zf_spec.specs.Codes.{count_bits, coefficients_of, existing_values, read_rev, read_prec}
use Rattle.zf_spec.proofs.Beginnings.{begins_is_first, begins_itself, first_bits-append}
use Rattle.zf_spec.proofs.Full.{length-planes_in, planes_in-length, full_begins, full_only}
use Rattle.zf_header.specs.declared.header.Mode.{Mode}
use Rattle.zf_header.specs.declared.header.Mode.TheVariants.{Reversible, Rate, Precision}
use Rattle.zf_parse.{specs.Parsing.{read_code}, proofs.TextOfParse.{read_code_more}}

-- what is found where enough bits are there
pub record Found {A : Type 0} (short : Bool) (a : A) (n : ℕ) (b : A) (k : ℕ) : Type 0 where
  pub enough : short ≡ false
  pub same : a ≡ b
  pub count : n ≡ k

pub found_some : {A : Type 0} (short : Bool) (a b : A) (n k : ℕ) → cond {A = Option (A × ℕ)} short None (Some (a, n)) ≡ Some (b, k) → Found short a n b k
found_some true a b n k e = absurd cc
found_some {A} false a b n k e = search rules

-- bits that begin others, as far as those go, are their prefix
begins_take : (a s : List Bool) → length a ≤ length s → Begins a s → a ≡ take (length a) s
begins_take a s within begins =
    begins_is_first a s begins ∙ ap (λ (t : List Bool). first_bits (length a) t) (sym (append-nil s)) ∙ first_bits-append s [] (length a) within

-- planes are known from the bits of their code
planes_prefix : (p size : ℕ) (s : List Bool) → length (code (planes_in p size s)) ≤ length s → planes_in p size (take (length (code (planes_in p size s))) s) ≡ planes_in p size s
planes_prefix p size s within =
    let ps = planes_in p size s in
    let prefix : code ps ≡ take (length (code ps)) s = begins_take (code ps) s within (full_begins p size s) in
    let Begun : List Bool → Type 0 = λ t. Begins (code ps) t in
    let begins : Begins (code ps) (take (length (code ps)) s) = subst Begun (append-nil (code ps) ∙ prefix) (begins_itself (code ps) []) in
    cc (full_only size ps (take (length (code ps)) s) (planes_in-length p size s) begins, length-planes_in p size s)

-- planes that were found, as they are found where just so many bits are there
found_again : {A : Type 0} (of : List (List Bool) → A) (prefix : ℕ) (s t : List Bool) (ps qs : List (List Bool)) (b : A) (k : ℕ) → length t ≡ k → qs ≡ ps → prefix + length (code ps) ≡ k → of ps ≡ b
    → cond {A = Option (A × ℕ)} (ltb (length t) (prefix + length (code qs))) None (Some (of qs, prefix + length (code qs))) ≡ Some (b, k)
found_again {A} of prefix s t ps qs b k long same count is =
    cc (le-ltb (length t) (prefix + length (code ps)) (omega (arith, long, count)))

pub read_code-prefix : (w : Width) (mode : Mode) (es : List ℕ) (s : List Bool) (block : List ℤ) (k : ℕ) → read_code w mode es s ≡ Some (block, k) → read_code w mode es (take k s) ≡ Some (block, k)
unfolding read_rev read_prec
read_code-prefix w Reversible es s block k e =
    let n = count_bits w in
    let size = 4 ^ length es in
    let p = number (take n s) + 1 in
    let rest = drop n s in
    let ps = planes_in p size rest in
    let of = λ (qs : List (List Bool)). existing_values es (unlorenzo w (length es) (coefficients_of w (length es) qs)) in
    let is = found_some (ltb (length s) (n + length (code ps))) (of ps) block (n + length (code ps)) k e in
    let enough : n + length (code ps) ≤ length s = ltb-false (length s) (n + length (code ps)) is.enough in
    let t = take k s in
    let long : length t ≡ k = length-take-le k s (omega (arith, enough, is.count)) in
    let number_same : take n t ≡ take n s = take-take n k s (omega (arith, is.count)) in
    let rest_same : drop n t ≡ take (length (code ps)) rest = ap (λ m. drop n (take m s)) (sym is.count) ∙ drop-take n (length (code ps)) s in
    let qs = planes_in (number (take n t) + 1) size (drop n t) in
    let same : qs ≡ ps = cc (number_same, rest_same, planes_prefix p size rest (omega (arith, enough, length-drop n s))) in
    found_again of n s t ps qs block k long same is.count is.same
read_code-prefix w (Rate b) es s block k e = search (rules, found_some, ltb-false, le-ltb, length-take-le, take-take)
read_code-prefix w (Precision p) es s block k e =
    search (rules, found_some, ltb-false, length-take-le, planes_prefix, found_again)

-- a code in front of bits is whole: whatever follows it, just its bits are read
pub read_code_whole : (w : Width) (mode : Mode) (es : List ℕ) (s : List Bool) (block : List ℤ) (k : ℕ) → read_code w mode es s ≡ Some (block, k)
    → (k ≤ length s) × ((more : List Bool) → read_code w mode es (take k s ++ more) ≡ Some (block, length (take k s)))
read_code_whole w mode es s block k e =
    let within : k ≤ length s = (read_code_more w mode es s [] (block, k) e).1 in
    (within, λ more. (read_code_more w mode es (take k s) more (block, k) (read_code-prefix w mode es s block k e)).0 ∙ ap (λ n. Some (block, n)) (sym (length-take-le k s within)))
