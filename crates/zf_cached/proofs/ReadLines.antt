-- The words of a command, and the only command that a line is read as.
use Rattle.std.proofs.Common.{◌≡◌, ℕ, zero, suc, ◌<◌, ◌≤◌, ℤ, List, [], ◌∷◌, length, get_or, take, Bool, true, false, not, ◌&&◌, ◌==◌, ◌↔◌, Option, Some, None, IsTrue, find, bytes_eq, refl, ap, sym, ◌∙◌, subst, arith, rules, lit<, codes, decimal}
use Rattle.std.{specs.Fmt.{signed_decimal}, specs.Str.Parse.{digits_value, signed_digits_value}}
use Rattle.std.{specs.List.{AllByRecursion, list_all}, proofs.lemmas.Slice.Eq.{bytes_eq-Decides}}
use Rattle.std.proofs.lemmas.Bool.{false_from_ne_true, eqb-true, ltb-true, leb-true, not-true, and_parts, and_from, cond-true, cond-false, cond_both}
use Rattle.std.proofs.lemmas.List.Elements.{All-nil, All-cons}
use Rattle.zf_cached.specs.Commands.{Command}
use Rattle.zf_cached.specs.Grammar.{IsNoDigit, space, comma, letter_x, numbers_text, view_word, words_of, line_of, is_number, is_value, has_axes, has_sizes, is_writable, cut_at, numbers_in, candidates, is_line, read_line}
use Rattle.zf_cached.proofs.Numerals.{HasNo, HasNo-decimal, HasNo-signed, number-decimal, value-signed}
use Rattle.zf_cached.proofs.Cutting.{cut_at-joined, HasNo-numbers, numbers_in-numbers_text}

-- ---- a space is no digit
pub no_space : IsNoDigit space
no_space r = omega arith

-- ---- what the tests say
-- one number for each axis
pub axes-parts : (d : ℕ) (ns : List ℕ) → has_axes d ns ≡ true → (length ns ≡ d) × (list_all is_number ns ≡ true)
axes-parts d ns ok =
    let parts = and_parts (length ns == d) (list_all is_number ns) ok in
    (eqb-true (length ns) d parts.0, parts.1)

-- one to four numbers
pub sizes-parts : (ns : List ℕ) → has_sizes ns ≡ true → (1 ≤ length ns) × (length ns ≤ 4) × (list_all is_number ns ≡ true)
sizes-parts ns ok =
    let parts = and_parts _ (list_all is_number ns) ok in
    let ends = and_parts _ _ parts.0 in
    (leb-true 1 (length ns) ends.0, leb-true (length ns) 4 ends.1, parts.1)

-- ---- no word of a command has a space
pub position_no_space : (d : ℕ) (ns : List ℕ) → has_axes d ns ≡ true → HasNo space (numbers_text comma ns)
position_no_space d ns ok = HasNo-numbers space comma ns (axes-parts d ns ok).1 no_space (λ e. omega arith)

pub sizes_no_space : (ns : List ℕ) → list_all is_number ns ≡ true → HasNo space (numbers_text letter_x ns)
sizes_no_space ns small = HasNo-numbers space letter_x ns small no_space (λ e. omega arith)

pub value_no_space : (v : ℤ) → is_value v ≡ true → HasNo space (signed_decimal v)
value_no_space v small = HasNo-signed space v small no_space (λ e. omega arith)

pub number_no_space : (n : ℕ) → is_number n ≡ true → HasNo space (decimal n)
number_no_space n small = HasNo-decimal space n (ltb-true n _ small) no_space

-- each byte of a word of letters is looked at
letters : (word : List ℕ) → list_all (λ b. not (b == space)) word ≡ true → HasNo space word
letters [] ok = All-nil (λ b. (b == space) ≡ false)
letters (b ∷ bs) ok =
    let parts = and_parts (not (b == space)) (list_all (λ a. not (a == space)) bs) ok in
    All-cons (λ a. (a == space) ≡ false) b bs (not-true (b == space) parts.0) (letters bs parts.1)

pub view_no_space : (i : ℕ) → is_number i ≡ true → HasNo space (view_word i)
view_no_space i small = All-cons (λ b. (b == space) ≡ false) 64 (decimal i) refl (number_no_space i small)

position_and_value_no_space : (d : ℕ) (p : List ℕ) (v : ℤ) → (has_axes d p && is_value v) ≡ true → AllByRecursion (HasNo space) (numbers_text comma p ∷ signed_decimal v ∷ [])
position_and_value_no_space d p v ok =
    let parts = and_parts (has_axes d p) (is_value v) ok in
    (position_no_space d p parts.0, (value_no_space v parts.1, tt))

words_no_space : (d : ℕ) (c : Command) → is_writable d c ≡ true → AllByRecursion (HasNo space) (words_of c)
words_no_space d (Command.get p) ok = (letters (codes "get") refl, (position_no_space d p ok, tt))
words_no_space d c ok = search (rules, letters, and_parts, axes-parts, sizes-parts, position_no_space, sizes_no_space, value_no_space, number_no_space, view_no_space, position_and_value_no_space)

some_word : (c : Command) → 1 ≤ length (words_of c)
some_word (Command.get p) = omega arith
some_word c = omega arith

-- the text of a command is cut into its words
pub cut_at-line_of : (d : ℕ) (c : Command) → is_writable d c ≡ true → cut_at space (line_of c) ≡ words_of c
cut_at-line_of d c ok = cut_at-joined space (words_of c) (some_word c) (words_no_space d c ok)

-- ---- the candidate of a command's own words
found_at : (test : Command → Bool) (cs : List Command) (k : ℕ) (c : Command) → list_all (λ other. not (test other)) (take k cs) ≡ true → k < length cs → get_or cs k c ≡ c → test c ≡ true → find test cs ≡ Some c
found_at test [] k c others lt same passes = absurd (omega arith)
found_at test (x ∷ cs) zero c others lt same passes = cond-true (test x) (Some x) (find test cs) (ap test same ∙ passes) ∙ ap Some same
found_at test (x ∷ cs) (suc k) c others lt same passes =
    let parts = and_parts (not (test x)) (list_all (λ other. not (test other)) (take k cs)) others in
    cond-false (test x) (Some x) (find test cs) (not-true (test x) parts.0) ∙ found_at test cs k c parts.1 (omega arith) same passes

position_back : (d : ℕ) (p : List ℕ) → 1 ≤ d → has_axes d p ≡ true → numbers_in comma (numbers_text comma p) ≡ p
position_back d p some ok =
    let parts = axes-parts d p ok in
    numbers_in-numbers_text comma p (omega arith) parts.1 (λ r. omega arith)

sizes_back : (s : List ℕ) → 1 ≤ length s → list_all is_number s ≡ true → numbers_in letter_x (numbers_text letter_x s) ≡ s
sizes_back s some small = numbers_in-numbers_text letter_x s some small (λ r. omega arith)

position_and_value_back : (make : List ℕ → ℤ → Command) (d : ℕ) (p : List ℕ) (v : ℤ) → 1 ≤ d → (has_axes d p && is_value v) ≡ true
    → make (numbers_in comma (numbers_text comma p)) (signed_digits_value 10 (signed_decimal v)) ≡ make p v
position_and_value_back make d p v some ok =
    let parts = and_parts (has_axes d p) (is_value v) ok in
    cc (position_back d p some parts.0, value-signed v parts.1)

number_back : (n : ℕ) → is_number n ≡ true → digits_value 10 (decimal n) ≡ n
number_back n small = number-decimal n (ltb-true n _ small)

-- the candidate at place k, where those before it fail
in_place : (d : ℕ) (c : Command) (k : ℕ) → is_writable d c ≡ true → list_all (λ x. not (is_line d (line_of c) x)) (take k (candidates (words_of c))) ≡ true
    → k < length (candidates (words_of c)) → get_or (candidates (words_of c)) k c ≡ c → find (is_line d (line_of c)) (candidates (words_of c)) ≡ Some c
in_place d c k ok others lt same =
    let own = and_from (bytes_eq (line_of c) (line_of c)) (is_writable d c) ((bytes_eq-Decides (line_of c) (line_of c)).1 refl) ok in
    found_at (is_line d (line_of c)) (candidates (words_of c)) k c others lt same own

-- ---- the candidates on a view, which begin alike
-- words of which the first byte or the second word is another
abbrev other : List (List ℕ) → List (List ℕ) → Bool
other vs ws = not (bytes_eq (take 1 (get_or vs 0 [])) (take 1 (get_or ws 0 [])) && bytes_eq (get_or vs 1 []) (get_or ws 1 []))

-- are those of another text
other_line : (d : ℕ) (c x : Command) → is_writable d c ≡ true → other (words_of x) (words_of c) ≡ true → is_line d (line_of c) x ≡ false
other_line d c x ok differ = false_from_ne_true (is_line d (line_of c) x) (λ e.
    let parts = and_parts (bytes_eq (line_of x) (line_of c)) (is_writable d x) e in
    let text : line_of x ≡ line_of c = (bytes_eq-Decides (line_of x) (line_of c)).0 parts.0 in
    let words : words_of x ≡ words_of c = sym (cut_at-line_of d x parts.1) ∙ ap (cut_at space) text ∙ cut_at-line_of d c ok in
    let same = λ (f : List (List ℕ) → List ℕ). (bytes_eq-Decides (f (words_of x)) (f (words_of c))).1 (ap f words) in
    let alike : other (words_of x) (words_of c) ≡ false = ap not (and_from _ _ (same (λ ws. take 1 (get_or ws 0 []))) (same (λ ws. get_or ws 1 []))) in
    cc)

others_fail : (d : ℕ) (c : Command) (cs : List Command) → is_writable d c ≡ true → list_all (λ x. other (words_of x) (words_of c)) cs ≡ true → list_all (λ x. not (is_line d (line_of c) x)) cs ≡ true
others_fail d c [] ok others = refl
others_fail d c (x ∷ cs) ok others =
    let parts = and_parts (other (words_of x) (words_of c)) (list_all (λ y. other (words_of y) (words_of c)) cs) others in
    and_from (not (is_line d (line_of c) x)) (list_all (λ y. not (is_line d (line_of c) y)) cs) (ap not (other_line d c x ok parts.0)) (others_fail d c cs ok parts.1)

on_view : (d : ℕ) (c : Command) (k : ℕ) → is_writable d c ≡ true → list_all (λ x. other (words_of x) (words_of c)) (take k (candidates (words_of c))) ≡ true
    → k < length (candidates (words_of c)) → get_or (candidates (words_of c)) k c ≡ c → find (is_line d (line_of c)) (candidates (words_of c)) ≡ Some c
on_view d c k ok others lt same = in_place d c k ok (others_fail d c (take k (candidates (words_of c))) ok others) lt same

-- ---- each command's own candidate
candidate : (d : ℕ) (c : Command) → 1 ≤ d → is_writable d c ≡ true → find (is_line d (line_of c)) (candidates (words_of c)) ≡ Some c
unfolding candidates
candidate d (Command.get p) some ok = in_place d (Command.get p) 0 ok refl (lit< tt) (ap Command.get (position_back d p some ok))
candidate d (Command.set p v) some ok = in_place d (Command.set p v) 1 ok refl (lit< tt) (position_and_value_back Command.set d p v some ok)
candidate d (Command.add p v) some ok = in_place d (Command.add p v) 2 ok refl (lit< tt) (position_and_value_back Command.add d p v some ok)
candidate d (Command.fill v) some ok = in_place d (Command.fill v) 3 ok refl (lit< tt) (ap Command.fill (value-signed v ok))
candidate d Command.sum some ok = in_place d Command.sum 4 ok refl (lit< tt) refl
candidate d (Command.view p s t) some ok =
    let parts = and_parts (has_axes d p) _ ok in
    let more = and_parts (has_axes d s) (has_axes d t) parts.1 in
    let sizes = axes-parts d s more.0 in
    let size = sizes_back s (omega arith) sizes.1 in
    in_place d (Command.view p s t) 5 ok refl (lit< tt) (cc (position_back d p some parts.0, position_back d t some more.1))
candidate d (Command.slice a i) some ok =
    let parts = and_parts (is_number a) (is_number i) ok in
    in_place d (Command.slice a i) 6 ok refl (lit< tt) (cc (number_back a parts.0, number_back i parts.1))
candidate d (Command.vget p) some ok = in_place d (Command.vget p) 7 ok refl (lit< tt) (ap Command.vget (position_back d p some ok))
candidate d (Command.vset p v) some ok = in_place d (Command.vset p v) 8 ok refl (lit< tt) (position_and_value_back Command.vset d p v some ok)
candidate d Command.vsum some ok = in_place d Command.vsum 9 ok refl (lit< tt) refl
candidate d Command.flush some ok = in_place d Command.flush 10 ok refl (lit< tt) refl
candidate d Command.discard some ok = in_place d Command.discard 11 ok refl (lit< tt) refl
candidate d (Command.lines l) some ok = in_place d (Command.lines l) 12 ok refl (lit< tt) (ap Command.lines (number_back l ok))
candidate d (Command.resize s) some ok =
    let parts = sizes-parts s ok in
    in_place d (Command.resize s) 13 ok refl (lit< tt) (ap Command.resize (sizes_back s parts.0 parts.2))
candidate d Command.stats some ok = in_place d Command.stats 14 ok refl (lit< tt) refl
candidate d (Command.split n l) some ok =
    let parts = and_parts (is_number n) (is_number l) ok in
    in_place d (Command.split n l) 15 ok refl (lit< tt) (cc (number_back n parts.0, number_back l parts.1))
candidate d Command.join some ok = in_place d Command.join 16 ok refl (lit< tt) refl
candidate d (Command.pget i p) some ok =
    let parts = and_parts (is_number i) (has_axes d p) ok in
    on_view d (Command.pget i p) 17 ok refl (lit< tt) (cc (number_back i parts.0, position_back d p some parts.1))
candidate d (Command.pset i p v) some ok =
    let parts = and_parts (is_number i) (has_axes d p && is_value v) ok in
    on_view d (Command.pset i p v) 18 ok refl (lit< tt) (cc (number_back i parts.0, position_and_value_back (Command.pset i) d p v some parts.1))
candidate d (Command.padd i p v) some ok =
    let parts = and_parts (is_number i) (has_axes d p && is_value v) ok in
    on_view d (Command.padd i p v) 19 ok refl (lit< tt) (cc (number_back i parts.0, position_and_value_back (Command.padd i) d p v some parts.1))
candidate d (Command.pflush i) some ok = on_view d (Command.pflush i) 20 ok refl (lit< tt) (ap Command.pflush (number_back i ok))
candidate d (Command.pdiscard i) some ok = on_view d (Command.pdiscard i) 21 ok refl (lit< tt) (ap Command.pdiscard (number_back i ok))
candidate d (Command.pstats i) some ok = on_view d (Command.pstats i) 22 ok refl (lit< tt) (ap Command.pstats (number_back i ok))

-- ---- the law of the grammar
-- a writable command is read off its text
pub read_line-line_of : (d : ℕ) (c : Command) → 1 ≤ d → is_writable d c ≡ true → read_line d (line_of c) ≡ Some c
unfolding read_line
read_line-line_of d c some ok = ap (λ ws. find (is_line d (line_of c)) (candidates ws)) (cut_at-line_of d c ok) ∙ candidate d c some ok

found_passes : (test : Command → Bool) (cs : List Command) (c : Command) → find test cs ≡ Some c → test c ≡ true
found_passes test [] c found = absurd (cc)
found_passes test (x ∷ cs) c found =
    let P : Option Command → Type 0 = λ o. o ≡ Some c → test c ≡ true in
    cond_both (test x) (Some x) (find test cs) P
    (λ passes same. let e : x ≡ c = cc in subst (λ y. test y ≡ true) e passes)
    (λ fails later. found_passes test cs c later) found

-- a line is read as a writable command whose text it is
pub read_line-Some : (d : ℕ) (line : List ℕ) (c : Command) → read_line d line ≡ Some c → (is_writable d c ≡ true) × (line ≡ line_of c)
unfolding read_line
read_line-Some d line c read =
    let parts = and_parts (bytes_eq (line_of c) line) (is_writable d c) (found_passes (is_line d line) (candidates (cut_at space line)) c read) in
    (parts.1, sym ((bytes_eq-Decides (line_of c) line).0 parts.0))

-- exactly these
pub read_line_iff : (d : ℕ) (line : List ℕ) (c : Command) → 1 ≤ d → (read_line d line ≡ Some c) ↔ (IsTrue (is_writable d c) × (line ≡ line_of c))
read_line_iff d line c some =
    (read_line-Some d line c, λ is. ap (read_line d) is.1 ∙ read_line-line_of d c some is.0)

option_none : (o : Option Command) → ((c : Command) → o ≡ Some c → ⊥) → o ≡ None
option_none None none = refl
option_none (Some c) none = absurd (none c refl)

-- no command is read off a line that is the text of none
pub read_line-None : (d : ℕ) (line : List ℕ) → ((c : Command) → is_writable d c ≡ true → line ≡ line_of c → ⊥) → read_line d line ≡ None
read_line-None d line none = option_none (read_line d line) (λ c read. let is = read_line-Some d line c read in none c is.0 is.1)

-- two commands have different texts
pub line_of_injective : (d : ℕ) (a b : Command) → 1 ≤ d → is_writable d a ≡ true → is_writable d b ≡ true → line_of a ≡ line_of b → a ≡ b
line_of_injective d a b some ok_a ok_b same =
    let read_a = read_line-line_of d a some ok_a in
    let read_b = read_line-line_of d b some ok_b in
    let both : read_line d (line_of a) ≡ read_line d (line_of b) = ap (read_line d) same in
    cc
