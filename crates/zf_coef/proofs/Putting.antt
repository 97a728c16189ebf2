-- Words of planes that are written plane by plane.
use Rattle.std.proofs.Common.{rules, ◌≡◌, refl, ap, ◌∙◌, ℕ, ◌+◌, ◌<◌, ◌≢◌, List, [], length, get_or, set, get_or-set_same, get_or-set_other, length-set, arith}
use Rattle.std.proofs.lemmas.{Bool.{cases_lt, cases_eq}, List.{length-map, get_or-map, map-set}}
use Rattle.zf_coef.specs.Groups.{word_of, HoldsFrom, KeepsOthers}

-- planes of which one has another word at this number
abbrev pub with_word : List (List ℕ) → ℕ → ℕ → ℕ → List (List ℕ)
with_word planes k number w = set planes k (set (get_or planes k []) number w)

word_of-same : (planes : List (List ℕ)) (k number w : ℕ) → k < length planes → number < length (get_or planes k []) → word_of (with_word planes k number w) number k ≡ w
word_of-same planes k number w within inside = search (rules, get_or-set_same)

word_of-other_plane : (planes : List (List ℕ)) (k number w q p : ℕ) → q ≢ k → word_of (with_word planes k number w) p q ≡ word_of planes p q
word_of-other_plane planes k number w q p apart = ap (λ ws. get_or ws p 0) (get_or-set_other planes k q (set (get_or planes k []) number w) [] apart)

word_of-other_word : (planes : List (List ℕ)) (k number w q p : ℕ) → k < length planes → p ≢ number → word_of (with_word planes k number w) p q ≡ word_of planes p q
word_of-other_word planes k number w q p within apart = search (rules, get_or-set_same, get_or-set_other, word_of-other_plane, cases_eq)

pub none_put : (number from : ℕ) (words : List ℕ) (planes : List (List ℕ)) → HoldsFrom 0 number from words planes planes
none_put number from words planes = record { inside = λ j h within. absurd (omega arith); below = λ k h. refl; above = λ k h. refl }

pub none_changed : (number : ℕ) (planes : List (List ℕ)) → KeepsOthers number planes planes
unfolding KeepsOthers
none_changed number planes k p apart = refl

pub both_kept : (number : ℕ) (old mid new : List (List ℕ)) → KeepsOthers number old mid → KeepsOthers number mid new → KeepsOthers number old new
unfolding KeepsOthers
both_kept number old mid new first second k p apart = second k p apart ∙ first k p apart

-- one word more
pub more_put : (number from j w : ℕ) (words : List ℕ) (old mid : List (List ℕ))
    → from + j < length mid → number < length (get_or mid (from + j) []) → w ≡ get_or words j 0
    → HoldsFrom j number from words old mid → HoldsFrom (j + 1) number from words old (with_word mid (from + j) number w)
more_put number from j w words old mid within inside here before = search (rules, word_of-other_plane, length-set, word_of-same, cases_lt)

pub more_kept : (number k w : ℕ) (old mid : List (List ℕ)) → k < length mid → KeepsOthers number old mid → KeepsOthers number old (with_word mid k number w)
unfolding KeepsOthers
more_kept number k w old mid within before q p apart = word_of-other_word mid k number w q p within apart ∙ before q p apart

-- planes that are put one by one
pub ruleset putting =
    (length-map, get_or-map, map-set, with_word, none_put, none_changed, more_put, more_kept)
