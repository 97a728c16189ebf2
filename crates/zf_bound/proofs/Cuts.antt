-- A code among bits, and the plane of the codes of an index.
use Rattle.std.proofs.Common.{◌≡◌, sym, ap, ◌∙◌, ℕ, ◌+◌, ◌-◌, ◌≤◌, min, max, Bool, List, [], ◌∷◌, ◌++◌, map, length, take, drop, take-take, drop-drop, arith, rules}
use Rattle.std.{specs.Int.{Width}, proofs.lemmas.List.{length-take, take_min, drop-take, map-append}}
use Rattle.zf_spec.{specs.Grid.{upto}, proofs.Counting.{count_from-add}}
use Rattle.zf_block.specs.WholePlanes.{rate_whole_from}
use Rattle.zf_bound.specs.{Bounds.{plane_of}, Spans.{AreFrom}}

-- ---- bits of a file from a place on

-- as many as there is room for
pub are_from : (from most : ℕ) (file bits : List Bool) → bits ≡ take most (drop from file) → AreFrom from file bits
are_from from most file bits e =
    let s = drop from file in
    let count : length bits ≡ min most (length s) = ap length e ∙ length-take most s in
    e ∙ sym (ap (λ n. take n s) count ∙ take_min most s)

-- a code among them
module _ (file bits : List Bool) (from at len : ℕ) (are : AreFrom from file bits) (behind : from ≤ at) (there : at - from + len ≤ length bits) where
  pub code_is : take len (drop (at - from) bits) ≡ take len (drop at file)
  code_is =
      let n = at - from in
      let s = drop from file in
      let parts : n + (length bits - n) ≡ length bits = omega (arith, there) in
      let place : from + n ≡ at = omega (arith, behind) in
      ap (λ (bs : List Bool). take len (drop n bs)) (are ∙ ap (λ k. take k s) (sym parts)) ∙ ap (take len) (drop-take n (length bits - n) s) ∙ take-take len (length bits - n) (drop n s) (omega (arith, there))
      ∙ ap (take len) (drop-drop n from file ∙ ap (λ k. drop k file) place)

-- ---- the greatest plane over codes

plane_of-append : (w : Width) (d : ℕ) (cs : List (List Bool)) (c : List Bool) → plane_of w d (cs ++ c ∷ []) ≡ max (plane_of w d cs) (rate_whole_from w d c)
plane_of-append w d [] c = omega arith
plane_of-append w d (b ∷ cs) c = let rest = plane_of-append w d cs c in omega arith

pub plane_of-more : (w : Width) (d : ℕ) (code : ℕ → List Bool) (n k : ℕ) → k ≡ plane_of w d (map code (upto n)) → max k (rate_whole_from w d (code n)) ≡ plane_of w d (map code (upto (n + 1)))
plane_of-more w d code n k is = search (rules, count_from-add, map-append, plane_of-append)
