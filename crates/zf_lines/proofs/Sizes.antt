-- Blocks keep their number and their length, whatever is written through a loan.
use Rattle.std.proofs.Common.{◌≡◌, ℕ, zero, suc, ◌<◌, List, [], ◌∷◌, length, slice_set, replicate, refl, sym, ap, ◌∙◌, length-set, append-nil, rules}
use Rattle.std.proofs.lemmas.List.{length-replicate, get_or-replicate, drop_all, take_all}
use Rattle.std.specs.List.{length_refill}
use Rattle.zf_lines.specs.Rows.{line_at, HasSize, over}

module _ {X : Type 0} where
  pub length-over : (xs ws : List X) → length (over xs ws) ≡ length xs
  length-over xs ws = sym (length_refill (length xs) xs ws refl)

  -- a list as long as the one it is written over stays as it is
  pub over_same : (xs ws : List X) → length ws ≡ length xs → over xs ws ≡ ws
  over_same xs ws e = search (rules, drop_all, append-nil, take_all)

  -- a block as long as the one in whose place it comes
  length-line_at-set : (ls : List (List X)) (i j : ℕ) (ws : List X) → length ws ≡ length (line_at ls i) → length (line_at (slice_set ls i ws) j) ≡ length (line_at ls j)
  length-line_at-set [] i j ws e = refl
  length-line_at-set (x ∷ ls) zero zero ws e = e
  length-line_at-set (x ∷ ls) zero (suc j) ws e = refl
  length-line_at-set (x ∷ ls) (suc i) zero ws e = refl
  length-line_at-set (x ∷ ls) (suc i) (suc j) ws e = length-line_at-set ls i j ws e

  pub HasSize-set : (ls : List (List X)) (l n i : ℕ) (ws : List X) → HasSize ls l n → i < l → length ws ≡ n → HasSize (slice_set ls i ws) l n
  HasSize-set ls l n i ws h lt e = (length-set ls i ws ∙ h.0, λ j lj. length-line_at-set ls i j ws (e ∙ sym (h.1 i lt)) ∙ h.1 j lj)

  pub HasSize-replicate : (l n : ℕ) (x : X) → HasSize (replicate l (replicate n x)) l n
  HasSize-replicate l n x = (length-replicate l (replicate n x), λ i lt. ap length (get_or-replicate l i (replicate n x) [] lt) ∙ length-replicate n x)
