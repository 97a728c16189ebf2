-- Coefficients and planes as they are held in words.
--     A coefficient is a word that has its digits as bits. A plane is four words of 64 bits, one for each rank;
--     planes are numbered by their digit, the lowest first.
use Rattle.std.specs.Prelude.{ℕ, ℤ, pos, ◌≡◌, ◌<◌, ◌^◌, Bool, false, List, map, length, slice_index_or}
use Rattle.std.specs.Int.{Width}
use mir.Val.{bits}
use Rattle.zf_spec.specs.Numbers.{digits, value_of, field, word_bits}
use Rattle.zf_spec.specs.Ranks.{order, by_rank, by_place}
use Rattle.zf_base.specs.WholeBlocks.{IsBlockOf}

-- the n lowest digits of each word
abbrev pub digits_in : ℕ → List ℕ → List (List Bool)
digits_in n words = map (field n) words

-- the digits of the coefficients of a block, by rank
abbrev pub ranked_digits : Width → ℕ → List ℤ → List (List Bool)
ranked_digits w d block = map (digits (bits w)) (by_rank d block)

-- the coefficients by place of which these are the digits by rank
abbrev pub unranked_values : Width → ℕ → List (List Bool) → List ℤ
unranked_values w d coefficients = by_place d (map (value_of w) coefficients)

-- the places of the ranks below r have the values by rank
abbrev pub HasRanks : ℕ → ℕ → List ℤ → List ℤ → Type 0
HasRanks d r values block = (k : ℕ) → k < r → slice_index_or block (slice_index_or (order d) k 0) (pos 0)
    ≡ slice_index_or values k (pos 0)

-- the digits that planes hold at this rank, the lowest first
unfoldable pub column : ℕ → List (List ℕ) → List Bool
column rank planes = map (λ words. slice_index_or (word_bits words) rank false) planes

-- a block has as many coefficients by place as there are digits by rank
abbrev pub AreOfBlock : {A B : Type 0} → ℕ → List A → List B → Type 0
AreOfBlock d digits block = IsBlockOf d block × (length digits ≡ 4 ^ d)
