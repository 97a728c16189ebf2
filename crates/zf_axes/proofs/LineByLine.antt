-- A pass along one axis, line by line.
use Rattle.std.proofs.Common.{◌≡◌, ◌≢◌, ℕ, ◌+◌, ◌*◌, ◌/◌, ◌%◌, ◌<◌, ◌≤◌, ℤ, pos, List, length, get_or, sym, ap, ◌∙◌, arith, ◌⊎◌, inl, inr, rules}
use Rattle.std.{proofs.lemmas.Bool.{cases_lt}, proofs.lemmas.List.{ext_get_or}}
use Rattle.zf_spec.{specs.Lift.{line_value, along}, proofs.Counting.{length-map-upto, get_or-map-upto}}
use Rattle.zf_axes.{specs.Lines.{member, mapped_line, MapsLine}, proofs.Strides.{line_start, place-of_line}}

pub length-along : (f : ℤ → ℤ → ℤ → ℤ → List ℤ) (step : ℕ) (block : List ℤ) → length (along f step block) ≡ length block
unfolding along
length-along f step block = length-map-upto (line_value f step block) (length block)

pub get_or-along : (f : ℤ → ℤ → ℤ → ℤ → List ℤ) (step : ℕ) (block : List ℤ) (p : ℕ) → p < length block → get_or (along f step block) p (pos 0) ≡ line_value f step block p
unfolding along
get_or-along f step block p inside = get_or-map-upto (line_value f step block) (length block) p (pos 0) inside

-- the lines that begin before this place have been mapped, and no other value has changed
pub record IsMappedBelow (f : ℤ → ℤ → ℤ → ℤ → List ℤ) (step start : ℕ) (old new : List ℤ) : Type 0 where
  pub size : length new ≡ length old
  pub done : (p : ℕ) → line_start step p < start → p < length old → get_or new p (pos 0) ≡ line_value f step old p
  pub rest : (p : ℕ) → start ≤ line_start step p → get_or new p (pos 0) ≡ get_or old p (pos 0)

-- where no line begins nothing is to be done
pub IsMappedBelow-skip : (f : ℤ → ℤ → ℤ → ℤ → List ℤ) (step from to : ℕ) (old new : List ℤ) → from ≤ to → ((p : ℕ) → line_start step p < to → line_start step p < from)
    → IsMappedBelow f step from old new → IsMappedBelow f step to old new
IsMappedBelow-skip f step from to old new order none mapped =
    record { size = mapped.size; done = λ p below inside. mapped.done p (none p below) inside; rest = λ p all. mapped.rest p (omega arith) }

-- where a line begins it is mapped
pub IsMappedBelow-line : (f : ℤ → ℤ → ℤ → ℤ → List ℤ) (step start : ℕ) (old now new : List ℤ) → 0 < step → ((k : ℕ) → k < 4 → line_start step (start + step * k) ≡ start)
    → IsMappedBelow f step start old now → MapsLine f start step now new → IsMappedBelow f step (start + 1) old new
IsMappedBelow-line f step start old now new some begins mapped line =
    record {
      size = line.size ∙ mapped.size;
      done = λ p below inside. by_start p inside (cases_lt (line_start step p) start) below;
      rest = λ p all. other p (omega arith) ∙ mapped.rest p (omega arith);
    }
  where
    -- the line was as at the beginning
    untouched : (k : ℕ) → k < 4 → member now start step k ≡ member old start step k
    untouched k small = mapped.rest (start + step * k) (let e = begins k small in omega arith)

    same_line : mapped_line f start step now ≡ mapped_line f start step old
    same_line =
        let e0 = untouched 0 (omega arith) in
        let e1 = untouched 1 (omega arith) in
        let e2 = untouched 2 (omega arith) in
        let e3 = untouched 3 (omega arith) in
        cc

    other : (p : ℕ) → line_start step p ≢ start → get_or new p (pos 0) ≡ get_or now p (pos 0)
    other p elsewhere = line.others p (λ k small e. elsewhere (ap (line_start step) e ∙ begins k small))

    here : (p : ℕ) → line_start step p ≡ start → get_or new p (pos 0) ≡ line_value f step old p
    here p e =
        let k = p / step % 4 in
        let small : k < 4 = omega arith in
        let place : p ≡ start + step * k = place-of_line step p some ∙ ap (λ s. s + step * k) e in
        ap (λ q. get_or new q (pos 0)) place ∙ line.line k small ∙ ap (λ (l : List ℤ). get_or l k (pos 0)) same_line
        ∙ ap (λ s. get_or (mapped_line f s step old) k (pos 0)) (sym e)

    by_start : (p : ℕ) → p < length old → (line_start step p < start) ⊎ (start ≤ line_start step p) → line_start step p < start + 1 → get_or new p (pos 0) ≡ line_value f step old p
    by_start p inside (inl before) below = other p (omega arith) ∙ mapped.done p before inside
    by_start p inside (inr from) below = here p (omega arith)

pub IsMappedBelow-end : (f : ℤ → ℤ → ℤ → ℤ → List ℤ) (step start : ℕ) (old new : List ℤ) → length old ≤ start → IsMappedBelow f step start old new → new ≡ along f step old
IsMappedBelow-end f step start old new all mapped =
    ext_get_or (pos 0) new (along f step old) (mapped.size ∙ sym (length-along f step old))
    (search (rules, get_or-along))
