-- Codes of one length, cut from bits one after another.
use Rattle.std.proofs.Common.{◌≡◌, ◌⊎◌, sym, ap, ◌∙◌, ℕ, suc, ◌+◌, ◌-◌, ◌*◌, ◌<◌, ◌≤◌, Bool, false, List, ◌++◌, map, length, get_or, take, drop, replicate, append_assoc, length-append, length-drop, inl, inr, arith, suc-mul, rules}
use Rattle.std.{specs.Int.{div_ceil}, specs.List.{flat_map}, proofs.Math.Path.{fun_ext}}
use Rattle.std.{proofs.Math.Nat.{mul-le-mul_right}, proofs.Math.Seq.{drop-append-add}}
use Rattle.std.proofs.lemmas.Bool.{cases_order, cases_lt}
use Rattle.std.proofs.lemmas.List.{length-take-le, length-replicate, take-append-drop, take-take, take_at, take-append-le, drop-take, drop_at, drop-drop, drop-append-le, get_or_past, get_or-replicate, take-replicate, drop-replicate}
use Rattle.zf_spec.{specs.Grid.{upto}, specs.Numbers.{word_bits}, specs.Stream.{with_fill}}
use Rattle.zf_spec.{proofs.Bytes.{filled_only}, proofs.WordBits.{length-word_bits}}
use Rattle.zf_spec.proofs.Counting.{length-map-upto, get_or-map-upto, map-upto_same, map-get_or-upto}
use Rattle.zf_base.{specs.Formats.{with_at}, proofs.Formats.{with_at-same, with_at-other}}
use Rattle.zf_bits.proofs.Packed.{flat_map-field-replicate}
use Rattle.zf_parse.proofs.RateStreams.{code_cut, end_to_end-cut}
use Rattle.zf_store.specs.Words.{codes_in}

-- ---- bits among others

-- n bits from bit i on, all before a change
pub before_change : (i n j : ℕ) (s t : List Bool) → i + n ≤ j → j ≤ length s → take n (drop i (take j s ++ t)) ≡ take n (drop i s)
before_change i n j s t fits within =
    let long : length (take j s) ≡ j = length-take-le j s within in
    let sum : j ≡ i + (j - i) = omega arith in
    let inner : drop i (take j s) ≡ take (j - i) (drop i s) = ap (λ k. drop i (take k s)) sum ∙ drop-take i (j - i) s in
    search (rules, drop-append-le, take-append-le, length-drop, take-take)

-- the bits from bit i on, all behind a change from bit j on
pub behind_change : (i j n : ℕ) (s c : List Bool) → j ≤ length s → length c ≡ n → j + n ≤ i → drop i (take j s ++ c ++ drop (j + n) s) ≡ drop i s
behind_change i j n s c within long behind =
    let prefix = take j s ++ c in
    let size : length prefix ≡ j + n = omega (arith, length-append (take j s) c, length-take-le j s within) in
    let sum : i ≡ length prefix + (i - (j + n)) = omega arith in
    let back : j + n + (i - (j + n)) ≡ i = omega arith in cc (drop-append-add prefix (drop (j + n) s) (i - (j + n)), drop-drop (i - (j + n)) (j + n) s)

-- the changed bits
pub at_change : (j n : ℕ) (s c t : List Bool) → j ≤ length s → length c ≡ n → take n (drop j (take j s ++ c ++ t)) ≡ c
at_change j n s c t within long = search (rules, append_assoc, drop_at, length-take-le, take_at)

-- ---- codes

-- a place of n: one of length k ends before the end of all
pub ends_within : (budget n b : ℕ) → b < n → b * budget + budget ≤ n * budget
ends_within budget n b below = omega (arith, suc-mul b budget, mul-le-mul_right {m = suc b} {n = n} budget below)

-- a code of the first bits is one of all
pub code_cut-take : (budget n b : ℕ) (s : List Bool) → b < n → code_cut budget (take (n * budget) s) b ≡ code_cut budget s b
code_cut-take budget n b s below =
    let sum : n * budget ≡ b * budget + (n * budget - b * budget) = omega (arith, ends_within budget n b below) in search (rules, drop-take, take-take, ends_within)

-- only the first bits count
pub codes_in-prefix : (budget n : ℕ) (s t : List Bool) → take (n * budget) s ≡ take (n * budget) t → codes_in budget n s ≡ codes_in budget n t
codes_in-prefix budget n s t same = map-upto_same (code_cut budget s) (code_cut budget t) n
    (λ b below. sym (code_cut-take budget n b s below) ∙ ap (λ (bs : List Bool). code_cut budget bs b) same ∙ code_cut-take budget n b t below)

pub length-codes_in : (budget n : ℕ) (s : List Bool) → length (codes_in budget n s) ≡ n
length-codes_in budget n s = length-map-upto (code_cut budget s) n

pub get_or-codes_in : (budget n : ℕ) (s : List Bool) (b : ℕ) → b < n → get_or (codes_in budget n s) b (replicate budget false) ≡ code_cut budget s b
get_or-codes_in budget n s b below = get_or-map-upto (code_cut budget s) n b (replicate budget false) below

pub joined-codes_in : (budget n : ℕ) (s : List Bool) → flat_map (λ c. c) (codes_in budget n s) ≡ take (n * budget) s
joined-codes_in budget n s = end_to_end-cut budget s n

-- one code is put anew
pub codes_in-put : (budget n b : ℕ) (s t code : List Bool) → n * budget ≤ length s → b < n → length code ≡ budget
    → t ≡ take (b * budget) s ++ code ++ drop (b * budget + budget) s
    → (λ k. get_or (codes_in budget n t) k (replicate budget false)) ≡ with_at (λ k. get_or (codes_in budget n s) k (replicate budget false)) b code
codes_in-put budget n b s t code long below size is = fun_ext (λ k. by k (cases_order k b))
  where
    old : ℕ → List Bool
    old k = get_or (codes_in budget n s) k (replicate budget false)

    now : ℕ → List Bool
    now k = get_or (codes_in budget n t) k (replicate budget false)

    within : b * budget ≤ length s
    within = omega (arith, ends_within budget n b below)

    left : (k : ℕ) → code_cut budget t k ≡ code_cut budget s k → now k ≡ old k
    left k same = search (rules, cases_lt, get_or-codes_in, get_or_past, length-codes_in)

    by : (k : ℕ) → (k ≡ b) ⊎ ((k < b) ⊎ (b < k)) → now k ≡ with_at old b code k
    by k (inl e) = search (rules, get_or-codes_in, at_change, with_at-same, within)
    by k (inr (inl h)) =
        left k (ap (λ (bs : List Bool). code_cut budget bs k) (is ∙ append_assoc (take (b * budget) s) code (drop (b * budget + budget) s))
        ∙ before_change (k * budget) budget (b * budget) s (code ++ drop (b * budget + budget) s) (ends_within budget b k h) within)
        ∙ sym (with_at-other old b code k (λ e. omega arith))
    by k (inr (inr h)) =
        left k (ap (λ (bs : List Bool). code_cut budget bs k) is
        ∙ ap (take budget) (behind_change (k * budget) (b * budget) budget s code within size (ends_within budget k b h)))
        ∙ sym (with_at-other old b code k (λ e. omega arith))

-- the codes of words of zeros
map-same : {X : Type 0} (x : X) (n : ℕ) → map (λ (b : ℕ). x) (upto n) ≡ replicate n x
map-same x n = sym (map-upto_same (λ b. get_or (replicate n x) b x) (λ b. x) n (λ b below. get_or-replicate n b x x below)) ∙ map-get_or-upto (replicate n x) n x (length-replicate n x)

pub codes_in-zeros : (budget n count : ℕ) → n * budget ≤ 64 * count → codes_in budget n (word_bits (replicate count 0)) ≡ replicate n (replicate budget false)
codes_in-zeros budget n count enough =
    let bits = flat_map-field-replicate 64 count in
    map-upto_same (code_cut budget (word_bits (replicate count 0))) (λ b. replicate budget false) n
    (λ b below. let ends = ends_within budget n b below in search (rules, drop-replicate, take-replicate)) ∙ map-same (replicate budget false) n

-- ---- words that hold the codes, with zeros behind

pub words_are_filled : (words : List ℕ) (all : ℕ) → length words ≡ div_ceil all 64 → drop all (word_bits words) ≡ replicate (64 * length words - all) false
    → word_bits words ≡ with_fill (take all (word_bits words))
words_are_filled words all size blank = search (rules, length-take-le, length-word_bits, take-append-drop, filled_only)
