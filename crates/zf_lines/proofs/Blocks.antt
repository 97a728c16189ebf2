-- A list of values cut into blocks, and one run of them replaced.
use Rattle.std.proofs.Common.{◌≡◌, ℕ, zero, suc, ◌+◌, ◌-◌, ◌*◌, ◌<◌, ◌≤◌, List, ◌∷◌, ◌++◌, length, take, drop, slice_set, replicate, refl, sym, ap, ◌∙◌, arith, length-append, length-take, length-drop, drop-drop, take-append-drop, append_assoc, take_at, drop_at}
use Rattle.std.proofs.lemmas.List.{take-append-le, drop-append-le, take-replicate, drop-replicate}
use Rattle.std.{proofs.Math.Seq.{take-append-add, drop-append-add}, proofs.Math.Nat.{suc-mul, zero-mul}}
use Rattle.zf_lines.specs.Rows.{rows, line_at}

module _ {X : Type 0} where
  -- xs with ws in the place of the m values from the place k on
  abbrev pub splice : ℕ → ℕ → List X → List X → List X
  splice k m ws xs = take k xs ++ (ws ++ drop (k + m) xs)

  pub splice-prefix : (k m : ℕ) (ws row rest : List X) → k + m ≤ length row → splice k m ws (row ++ rest) ≡ splice k m ws row ++ rest
  splice-prefix k m ws row rest le =
      cc (take-append-le k row rest (omega arith), drop-append-le (k + m) row rest le, append_assoc ws (drop (k + m) row) rest, append_assoc (take k row) (ws ++ drop (k + m) row) rest)

  splice-behind : (k j m : ℕ) (ws row rest : List X) → j ≡ length row + k → splice j m ws (row ++ rest) ≡ row ++ splice k m ws rest
  splice-behind k j m ws row rest e =
      let on : j + m ≡ length row + (k + m) = omega arith in
      cc (take-append-add row rest k, drop-append-add row rest (k + m), append_assoc row (take k rest) (ws ++ drop (k + m) rest))

  pub length-splice : (k m : ℕ) (ws xs : List X) → k + m ≤ length xs → length ws ≡ m → length (splice k m ws xs) ≡ length xs
  length-splice k m ws xs le e =
      omega (arith, length-append (take k xs) (ws ++ drop (k + m) xs), length-append ws (drop (k + m) xs), length-take k xs, length-drop (k + m) xs)

  pub length-rows : (l n : ℕ) (xs : List X) → length (rows l n xs) ≡ l
  length-rows zero n xs = refl
  length-rows (suc l) n xs = ap suc (length-rows l n (drop n xs))

  rows-append : (l n : ℕ) (row rest : List X) → length row ≡ n → rows (suc l) n (row ++ rest) ≡ row ∷ rows l n rest
  rows-append l n row rest e = λ i. take_at row rest n e i ∷ rows l n (drop_at row rest n e i)

  -- block i lies from the value i * n on
  pub line_at-rows : (l n : ℕ) (xs : List X) (i : ℕ) → i < l → line_at (rows l n xs) i ≡ take n (drop (i * n) xs)
  line_at-rows zero n xs i lt = absurd (omega arith)
  line_at-rows (suc l) n xs zero lt = ap (λ k. take n (drop k xs)) (sym (zero-mul n))
  line_at-rows (suc l) n xs (suc i) lt =
      let swap : n + i * n ≡ suc i * n = omega (arith, suc-mul i n) in
      line_at-rows l n (drop n xs) i (omega arith) ∙ ap (take n) (drop-drop (i * n) n xs ∙ ap (λ k. drop k xs) swap)

  -- a run replaced inside block i replaces the same run of that block
  pub rows-splice : (l n : ℕ) (xs : List X) (i a m : ℕ) (ws : List X) → length xs ≡ l * n → i < l → a + m ≤ n → length ws ≡ m
      → rows l n (splice (i * n + a) m ws xs) ≡ slice_set (rows l n xs) i (splice a m ws (line_at (rows l n xs) i))
  rows-splice zero n xs i a m ws long lt within e = absurd (omega arith)
  rows-splice (suc l) n xs zero a m ws long lt within e =
      let row = take n xs in let rest = drop n xs in
      let full : length row ≡ n = omega (arith, length-take n xs, suc-mul l n) in
      let at : zero * n + a ≡ a = omega (arith, zero-mul n) in
      let kept : length (splice a m ws row) ≡ n = length-splice a m ws row (omega arith) e ∙ full in
      cc (take-append-drop n xs, splice-prefix a m ws row rest (omega arith), rows-append l n (splice a m ws row) rest kept)
  rows-splice (suc l) n xs (suc i) a m ws long lt within e =
      let row = take n xs in let rest = drop n xs in
      let full : length row ≡ n = omega (arith, length-take n xs, suc-mul l n) in
      let left : length rest ≡ l * n = omega (arith, length-drop n xs, suc-mul l n) in
      let behind = splice-behind (i * n + a) (suc i * n + a) m ws row rest (omega (arith, suc-mul i n)) in
      cc (take-append-drop n xs, behind, rows-append l n row (splice (i * n + a) m ws rest) full, rows-splice l n rest i a m ws left (omega arith) within e)

  pub rows-replicate : (l n : ℕ) (x : X) → rows l n (replicate (l * n) x) ≡ replicate l (replicate n x)
  rows-replicate zero n x = refl
  rows-replicate (suc l) n x =
      let less : suc l * n - n ≡ l * n = omega (arith, suc-mul l n) in
      cc (take-replicate n (suc l * n) x (omega (arith, suc-mul l n)), drop-replicate n (suc l * n) x, rows-replicate l n x)

-- block i ends within the values
pub line_within : (l n i : ℕ) → i < l → i * n + n ≤ l * n
line_within zero n i lt = absurd (omega arith)
line_within (suc l) n zero lt = omega (arith, suc-mul l n, zero-mul n)
line_within (suc l) n (suc i) lt = omega (arith, suc-mul l n, suc-mul i n, line_within l n i (omega arith))

pub rows_before : (w i n : ℕ) → w ≤ i → w * n ≤ i * n
rows_before w i n le = omega (arith, suc-mul i n, line_within (suc i) n w (omega arith))
