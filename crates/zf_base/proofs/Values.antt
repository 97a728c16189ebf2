-- The numbers of a list of values.
use Rattle.std.proofs.Common.{◌≡◌, ℕ, suc, ◌+◌, ◌<◌, List, ◌++◌, length, get_or, set, map, take, drop, replicate, refl, ap, sym, ◌∙◌, rules}
use Rattle.std.{proofs.lemmas.List.{get_or-map, map-set}, proofs.lemmas.List.Edits.{map_over_more}}

-- x is the element at i: its number is that at i among the numbers
pub number_at : {X Y : Type 0} (value : X → Y) (block : List X) (i : ℕ) (x : X) (d : Y) → i < length block → x ≡ get_or block i x → value x ≡ get_or (map value block) i d
number_at value block i x d lt is = ap value is ∙ sym (get_or-map value block i x d lt)

-- a loop's step: over the value at i it writes one whose number is f of that value's
pub numbers_more : {X Y : Type 0} (value : X → Y) (f : Y → Y) (numbers : List Y) (block : List X) (i : ℕ) (d y : X) → i < length block → length block ≡ length numbers → map value block ≡ map f (take i numbers) ++ drop i numbers → value y ≡ f (value (get_or block i d)) → map value (set block i y) ≡ map f (take (i + 1) numbers) ++ drop (i + 1) numbers
numbers_more value f numbers block i d y lt same so_far written = search (rules, map-set, map_over_more, get_or-map)

-- in a list of one value alone, and past its end, each is that value
pub alike_at : {X : Type 0} (x : X) (n k : ℕ) → get_or (replicate n x) k x ≡ x
alike_at x (suc n) (suc k) = alike_at x n k
alike_at x _ k = refl
