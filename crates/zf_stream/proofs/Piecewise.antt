-- Bytes that are written part by part: those of elements, of which so many were written before.
use Rattle.std.proofs.Common.{◌≡◌, ℕ, ◌+◌, ◌-◌, ◌≤◌, length, arith, List, ◌++◌, take, drop, Option, sym, ap, ◌∙◌, take-append-drop}
use Rattle.std.{proofs.Math.Seq.{take-add}, proofs.lemmas.List.{take_at, length-take-le}}
use Rattle.zf_dev.specs.Sink.{Appends, AppendsPrefix}
use Rattle.zf_dev.proofs.Appending.{Appends-append, AppendsPrefix-append, AppendsPrefix-more}

module _ {X : Type 0} (bytes : List X → List ℕ) (joined : (xs ys : List X) → bytes (xs ++ ys) ≡ bytes xs ++ bytes ys) (xs : List X) (at n : ℕ) where
  more : bytes (take at xs) ++ bytes (take n (drop at xs)) ≡ bytes (take (at + n) xs)
  more = sym (ap bytes (take-add at n xs) ∙ joined (take at xs) (take n (drop at xs)))

  -- what a piece was filled with
  pub piece_is : (put piece : List ℕ) (m : ℕ) → put ≡ bytes (take (at + n - at) (drop at xs)) → length put ≡ length (take m piece)
      → m ≤ length piece → take m (put ++ drop m piece) ≡ bytes (take n (drop at xs))
  piece_is put piece m is long within =
      let all = take_at put (drop m piece) m (long ∙ length-take-le m piece within) in
      all ∙ is ∙ ap (λ j. bytes (take j (drop at xs))) (omega arith)

  -- the next ones were written
  pub part_written : (from mid to : Option (List ℕ)) → Appends from mid (bytes (take at xs)) → Appends mid to (bytes (take n (drop at xs))) → Appends from to (bytes (take (at + n) xs))
  part_written from mid to written here =
      rw (← more) (Appends-append from mid to (bytes (take at xs)) (bytes (take n (drop at xs))) written here)

  -- or a prefix of them
  pub part_failed : (from mid to : Option (List ℕ)) → Appends from mid (bytes (take at xs)) → AppendsPrefix mid to (bytes (take n (drop at xs))) → AppendsPrefix from to (bytes xs)
  part_failed from mid to written here =
      let last = bytes (drop (at + n) xs) in
      let both = AppendsPrefix-append from mid to (bytes (take at xs)) (bytes (take n (drop at xs))) written here in
      let whole = sym (joined (take (at + n) xs) (drop (at + n) xs)) ∙ ap bytes (take-append-drop (at + n) xs) in
      rw (more, whole) at (AppendsPrefix-more from to _ last both)
