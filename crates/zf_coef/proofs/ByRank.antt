-- The digits of a block by rank, and a block whose places are filled by rank.
use Rattle.std.proofs.Common.{rules, ◌≡◌, sym, ap, ◌∙◌, ℕ, ◌+◌, ◌^◌, ◌<◌, ◌≢◌, ℤ, pos, List, [], length}
use Rattle.std.proofs.Common.{take, get_or, set, All, get_or-set_same, get_or-set_other, arith, subst}
use Rattle.std.{proofs.lemmas.Bool.{cases_lt}, proofs.lemmas.List.{length-map, get_or-map}, specs.Int.{Width}}
use Rattle.std.proofs.lemmas.List.Elements.{All-from_get_or}
use mir.Val.{bits}
use Rattle.zf_spec.{specs.Numbers.{digits, field}, specs.Ranks.{order, by_rank, by_place}}
use Rattle.zf_spec.proofs.Counting.{from_places}
use Rattle.zf_spec.proofs.Ranking.{length-order, order_below, rank_of, rank_of_below, order-rank_of, rank_of-order, length-by_rank, get_or-by_rank}
use Rattle.zf_coef.{specs.HeldDigits.{digits_in, ranked_digits, HasRanks}, proofs.Filling.{fill_all}}

pub order_within : (d : ℕ) (ps : List ℕ) → ps ≡ order d → All (λ p. p < 4 ^ d) ps
order_within d ps same =
    subst (All (λ p. p < 4 ^ d)) (sym same)
    (All-from_get_or (λ p. p < 4 ^ d) (order d) 0 (search (rules, order_below, length-order)))

pub length-ranked_digits : (w : Width) (d : ℕ) (block : List ℤ) → length (ranked_digits w d block) ≡ 4 ^ d
length-ranked_digits w d block = length-map (by_rank d block) (digits (bits w)) ∙ length-by_rank d block

pub get_or-ranked_digits : (w : Width) (d : ℕ) (block : List ℤ) (k : ℕ) → k < 4 ^ d → get_or (ranked_digits w d block) k [] ≡ digits (bits w) (get_or block (get_or (order d) k 0) (pos 0))
get_or-ranked_digits w d block k below =
    get_or-map (digits (bits w)) (by_rank d block) k (pos 0) [] (omega (arith, below, length-by_rank d block)) ∙ ap (digits (bits w)) (get_or-by_rank d block k below)

-- one rank more: its place is no other rank's
pub ranks_more : (d : ℕ) (block values : List ℤ) (r : ℕ) (v : ℤ) → length block ≡ 4 ^ d → r < 4 ^ d
    → HasRanks d r values block → v ≡ get_or values r (pos 0) → HasRanks d (r + 1) values (set block (get_or (order d) r 0) v)
ranks_more d block values r v long below before here k small =
    let place : get_or (order d) r 0 < length block = omega (arith, order_below d r below) in
    let apart : k < r → get_or (order d) k 0 ≢ get_or (order d) r 0 =
    λ earlier same.
    let rank : k ≡ r = cc (rank_of-order d k (omega arith), rank_of-order d r below) in omega arith in
    search (rules, apart, get_or-set_other, get_or-set_same, cases_lt)

pub ranks_all : (d : ℕ) (block values : List ℤ) → length block ≡ 4 ^ d → HasRanks d (4 ^ d) values block → block ≡ by_place d values
ranks_all d block values long has =
    sym (from_places (λ p. get_or values (rank_of d p) (pos 0)) (4 ^ d) (pos 0) block long
    (λ p below. ap (λ q. get_or block q (pos 0)) (sym (order-rank_of d p below)) ∙ has (rank_of d p) (rank_of_below d p below)))

-- every rank is filled
pub whole : (w : Width) (d n : ℕ) (values : List ℤ) (new : List ℕ) → n ≡ 4 ^ d → length new ≡ n
    → take n (digits_in (bits w) new) ≡ take n (ranked_digits w d values)
    → digits_in (bits w) new ≡ ranked_digits w d values
whole w d n values new size long filled =
    fill_all (field (bits w)) new (ranked_digits w d values) n long
    (length-ranked_digits w d values ∙ sym size) filled
