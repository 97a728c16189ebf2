-- The bytes of whole values, and what follows them.
use Rattle.std.proofs.Common.{rules, ◌≡◌, sym, ap, ◌∙◌, ℕ, ◌+◌, ◌*◌, ◌/◌, ◌%◌, ◌<◌, ℤ, List, [], ◌++◌, map, length, replicate, append_assoc, length-append, arith}
use Rattle.std.{proofs.lemmas.List.{nil_from_length, map-append, length-map, length-replicate}, specs.Int.{w32}}
use Rattle.zf_spec.{specs.Stream.{raw}, proofs.RawValues.{length-raw, length-values_from}}
use Rattle.zf_stream.proofs.RawValues.{raw-append, values_from-append}
use Rattle.zf_narrow.{specs.declared.narrow.Narrow.{Narrow}}
use Rattle.zf_narrow.{specs.Values.{width_of, size_of, promoted, demoted}, proofs.OneMore.{size_is}}
use Rattle.zf_narrow.specs.RawNarrow.{values_in, promoted_bytes, promoted_all, raw_narrow, demoted_bytes}

-- ---- counts

pub whole_count : (n : Narrow) (a : ℕ) → a % size_of n ≡ 0 → a ≡ a / size_of n * size_of n
whole_count n a whole = grind arith

pub count-add : (n : Narrow) (a b : ℕ) → a % size_of n ≡ 0 → (a + b) / size_of n ≡ a / size_of n + b / size_of n
count-add n a b whole = grind arith

pub rest-add : (n : Narrow) (a b : ℕ) → a % size_of n ≡ 0 → (a + b) % size_of n ≡ b % size_of n
rest-add n a b whole = grind arith

pub few_count : (n : Narrow) (a : ℕ) → a < size_of n → a / size_of n ≡ 0
few_count n a few = grind arith

pub few_rest : (n : Narrow) (a : ℕ) → a < size_of n → a % size_of n ≡ a
few_rest n a few = grind arith

none_of_both : (n : Narrow) (a : ℕ) → a / size_of n ≡ 0 → a % size_of n ≡ 0 → a ≡ 0
none_of_both n a none no_rest = grind arith

-- ---- narrow values as int32 bytes

values_in-append : (n : Narrow) (a b : ℕ) (xs ys : List ℕ) → length xs ≡ a * size_of n → values_in n (a + b) (xs ++ ys) ≡ values_in n a xs ++ values_in n b ys
values_in-append n a b xs ys long = search (rules, values_from-append, size_is, map-append)

pub promoted_bytes-append : (n : Narrow) (xs ys : List ℕ) → length xs % size_of n ≡ 0 → promoted_bytes n (xs ++ ys) ≡ promoted_bytes n xs ++ promoted_bytes n ys
promoted_bytes-append n xs ys whole = search (rules, length-append, count-add, values_in-append, whole_count, map-append, raw-append)

pub promoted_all-append : (n : Narrow) (xs ys : List ℕ) → length xs % size_of n ≡ 0 → promoted_all n (xs ++ ys) ≡ promoted_bytes n xs ++ promoted_all n ys
promoted_all-append n xs ys whole =
    search (rules, length-append, rest-add, promoted_bytes-append, append_assoc)

pub length-promoted_bytes : (n : Narrow) (s : List ℕ) → length (promoted_bytes n s) ≡ length s / size_of n * 4
length-promoted_bytes n s = search (rules, length-raw, length-map, length-values_from)

-- less than a value
pub promoted_bytes-few : (n : Narrow) (s : List ℕ) → length s < size_of n → promoted_bytes n s ≡ []
promoted_bytes-few n s few = ap (λ k. raw w32 (map (promoted n) (values_in n k s))) (few_count n (length s) few)

pub promoted_all-few : (n : Narrow) (s : List ℕ) → length s < size_of n → promoted_all n s ≡ replicate (length s) 0
promoted_all-few n s few = ap (λ bs. bs ++ replicate (length s % size_of n) 0) (promoted_bytes-few n s few) ∙ ap (λ k. replicate k 0) (few_rest n (length s) few)

pub length-promoted_all : (n : Narrow) (s : List ℕ) → length (promoted_all n s) ≡ length s / size_of n * 4 + length s % size_of n
length-promoted_all n s = search (rules, length-append, length-promoted_bytes, length-replicate)

-- nothing is given for no bytes alone
pub no_bytes : (n : Narrow) (s : List ℕ) → promoted_all n s ≡ [] → s ≡ []
no_bytes n s none =
    let long : length s / size_of n * 4 + length s % size_of n ≡ 0 = sym (length-promoted_all n s) ∙ ap length none in
    nil_from_length s (none_of_both n (length s) (omega (arith, long)) (omega (arith, long)))

pub no_values : (n : Narrow) (values : List ℕ) → length values % size_of n ≡ 0 → length (promoted_bytes n values) ≡ 0 → values ≡ []
no_values n values whole none = nil_from_length values (none_of_both n (length values) (omega (arith, length-promoted_bytes n values)) whole)

-- ---- int32 values as narrow bytes

raw_narrow-append : (n : Narrow) (xs ys : List ℤ) → raw_narrow n (xs ++ ys) ≡ raw_narrow n xs ++ raw_narrow n ys
raw_narrow-append n xs ys = ap (raw (width_of n)) (map-append (demoted n) xs ys) ∙ raw-append (width_of n) (map (demoted n) xs) (map (demoted n) ys)

pub demoted_bytes-append : (n : Narrow) (xs ys : List ℕ) → length xs % 4 ≡ 0 → demoted_bytes n (xs ++ ys) ≡ demoted_bytes n xs ++ demoted_bytes n ys
demoted_bytes-append n xs ys whole =
    let a = length xs / 4 in
    let b = length ys / 4 in
    let count : length (xs ++ ys) / 4 ≡ a + b = omega (arith, length-append xs ys) in search (rules, values_from-append, raw_narrow-append)

pub length-demoted_bytes : (n : Narrow) (s : List ℕ) → length (demoted_bytes n s) ≡ length s / 4 * size_of n
length-demoted_bytes n s = search (rules, length-raw, size_is, length-map, length-values_from)
