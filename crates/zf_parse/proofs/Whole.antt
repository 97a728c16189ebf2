-- The codes of a stream that are read, each whole, and the first that is short.
use Rattle.std.proofs.Common.{◌≡◌, ⊎_elim, refl, sym, ap, subst, ◌∙◌, ℕ, zero, suc, ◌+◌, ◌<◌, ◌≤◌, Bool, false, ℤ, Option, Some, None, Result, Ok, Err, List, [], ◌∷◌, ◌++◌, map, length, take, drop, replicate, append_assoc, length-append, arith, rules}
use Rattle.std.{specs.List.{flat_map}, proofs.lemmas.Bool.{cases_lt}}
use Rattle.std.proofs.lemmas.List.{append-nil, take-append-drop, take-append-le, take-take, take_at, length-take-le, length-replicate}
use Rattle.std.proofs.Math.Seq.{take-append_seam, drop-append_seam}
use Rattle.zf_spec.specs.Grid.{extent_of}
use Rattle.zf_base.{specs.Widths.{width_of}, proofs.Extents.{length-extent_of}}
use Rattle.zf_header.specs.declared.header.Header.{Header}
use Rattle.zf_parse.{specs.Parsing.{read_code, coded_blocks, longest_code}, specs.Cuts.{IsCode, AreCodes}}
use Rattle.zf_parse.{proofs.Steps.{Coded, codes_in, with_coded, next_coded, none_or_some}, proofs.Enough.{enough_for_one}}
use Rattle.zf_parse.proofs.Prefixes.{read_code_whole}

-- ---- codes that are read whole

-- each code stands for its block, whatever follows it
abbrev pub Stand : Header → ℕ → List (List Bool × List ℤ) → Type 0
Stand h b [] = Unit {0}
Stand h b (c ∷ cs) = ((more : List Bool) → read_code (width_of h.ty) h.mode (extent_of h.shape b) (c.0 ++ more) ≡ Some (c.1, length c.0)) × Stand h (suc b) cs

-- coded blocks, and what stands behind them
pub record Whole (h : Header) (b n : ℕ) (s : List Bool) (found : Coded) : Type 0 where
  pub stand : Stand h b found.0
  pub count : length found.0 ≡ n
  pub bits : s ≡ flat_map (λ c. c) (codes_in found) ++ found.1

pub read_whole : (h : Header) (b n : ℕ) (s : List Bool) (found : Coded) → coded_blocks h b n s ≡ Ok found → Whole h b n s found
read_whole h b zero s found e = search rules
read_whole h b (suc n) s found e = by (read_code (width_of h.ty) h.mode (extent_of h.shape b) s) refl (λ t rest is. read_whole h (suc b) n t rest is)
  where
    next : Option (List ℤ × ℕ) → Result Coded ℕ
    next o = next_coded b s o (coded_blocks h (suc b) n)

    behind : (code : List ℤ × ℕ) → read_code (width_of h.ty) h.mode (extent_of h.shape b) s ≡ Some code → (r : Result Coded ℕ)
        → coded_blocks h (suc b) n (drop code.1 s) ≡ r → with_coded (take code.1 s) code.0 r ≡ Ok found → ((t : List Bool) (rest : Coded) → coded_blocks h (suc b) n t ≡ Ok rest → Whole h (suc b) n t rest) → Whole h b (suc n) s found
    behind code is (Err k) e2 e3 later = absurd (cc)
    behind code is (Ok rest) e2 e3 later =
        let c = take code.1 s in
        let here = read_code_whole (width_of h.ty) h.mode (extent_of h.shape b) s code.0 code.1 is in
        let inner = later (drop code.1 s) rest e2 in
        let same : ((c, code.0) ∷ rest.0, rest.1) ≡ found = cc in
        let parts : s ≡ (c ++ flat_map (λ x. x) (codes_in rest)) ++ rest.1 = cc (take-append-drop code.1 s, inner.bits, append_assoc c (flat_map (λ x. x) (codes_in rest)) rest.1) in
        subst (λ (f : Coded). Whole h b (suc n) s f) same (record { stand = (here.1, inner.stand); count = ap suc inner.count; bits = parts })

    by : (o : Option (List ℤ × ℕ)) → read_code (width_of h.ty) h.mode (extent_of h.shape b) s ≡ o → ((t : List Bool) (rest : Coded) → coded_blocks h (suc b) n t ≡ Ok rest → Whole h (suc b) n t rest) → Whole h b (suc n) s found
    by None is later = let none : Err b ≡ Ok found = sym (ap next is) ∙ e in absurd (cc)
    by (Some code) is later = behind code is (coded_blocks h (suc b) n (drop code.1 s)) refl (sym (ap next is) ∙ e) later

pub codes_of_stand : (h : Header) (b : ℕ) (cs : List (List Bool × List ℤ)) → Stand h b cs → AreCodes h b (map (λ c. c.0) cs)
codes_of_stand h b [] stand = tt
codes_of_stand h b (c ∷ cs) stand = ((c.1, stand.0), codes_of_stand h (suc b) cs stand.1)

-- ---- the first code that is short

pub record Short (h : Header) (b n : ℕ) (s : List Bool) (k : ℕ) : Type 0 where
  pub codes : List (List Bool)
  pub count : b + length codes ≡ k
  pub fewer : length codes < n
  pub whole : AreCodes h b codes
  pub left : List Bool
  pub bits : s ≡ flat_map (λ c. c) codes ++ left
  pub none : read_code (width_of h.ty) h.mode (extent_of h.shape k) left ≡ None

pub read_short : (h : Header) (b n : ℕ) (s : List Bool) (k : ℕ) → coded_blocks h b n s ≡ Err k → Short h b n s k
read_short h b zero s k e = absurd (cc)
read_short h b (suc n) s k e = by (read_code (width_of h.ty) h.mode (extent_of h.shape b) s) refl (λ t is. read_short h (suc b) n t k is)
  where
    next : Option (List ℤ × ℕ) → Result Coded ℕ
    next o = next_coded b s o (coded_blocks h (suc b) n)

    behind : (code : List ℤ × ℕ) → read_code (width_of h.ty) h.mode (extent_of h.shape b) s ≡ Some code → (r : Result Coded ℕ)
        → coded_blocks h (suc b) n (drop code.1 s) ≡ r → with_coded (take code.1 s) code.0 r ≡ Err k → ((t : List Bool) → coded_blocks h (suc b) n t ≡ Err k → Short h (suc b) n t k) → Short h b (suc n) s k
    behind code is (Ok rest) e2 e3 later = absurd (cc)
    behind code is (Err j) e2 e3 later =
        let c = take code.1 s in
        let here = read_code_whole (width_of h.ty) h.mode (extent_of h.shape b) s code.0 code.1 is in
        let inner = later (drop code.1 s) (e2 ∙ ap (λ (i : ℕ). Err i) cc) in
        record {
          codes = c ∷ inner.codes;
          count = omega (arith, inner.count);
          fewer = omega (arith, inner.fewer);
          whole = ((code.0, here.1), inner.whole);
          left = inner.left;
          bits = sym (take-append-drop code.1 s) ∙ ap (λ (u : List Bool). c ++ u) inner.bits ∙ sym (append_assoc c (flat_map (λ x. x) inner.codes) inner.left);
          none = inner.none;
        }

    by : (o : Option (List ℤ × ℕ)) → read_code (width_of h.ty) h.mode (extent_of h.shape b) s ≡ o → ((t : List Bool) → coded_blocks h (suc b) n t ≡ Err k → Short h (suc b) n t k) → Short h b (suc n) s k
    by None is later = search rules
    by (Some code) is later = behind code is (coded_blocks h (suc b) n (drop code.1 s)) refl (sym (ap next is) ∙ e) later

-- ---- and back

-- whole codes in front of any bits are read
pub record Front (h : Header) (b : ℕ) (codes : List (List Bool)) (left : List Bool) : Type 0 where
  pub blocks : List (List Bool × List ℤ)
  pub read : coded_blocks h b (length codes) (flat_map (λ c. c) codes ++ left) ≡ Ok (blocks, left)

pub read_front : (h : Header) (b : ℕ) (codes : List (List Bool)) (left : List Bool) → AreCodes h b codes → Front h b codes left
read_front h b [] left whole = record { blocks = []; read = refl }
read_front h b (c ∷ cs) left whole =
    let w = width_of h.ty in
    let es = extent_of h.shape b in
    let rest = flat_map (λ x. x) cs ++ left in
    let s = (c ++ flat_map (λ x. x) cs) ++ left in
    let block = whole.0.0 in
    let next = coded_blocks h (suc b) (length cs) in
    let behind = read_front h (suc b) cs left whole.1 in
    let together : s ≡ c ++ rest = append_assoc c (flat_map (λ x. x) cs) left in
    let here : read_code w h.mode es s ≡ Some (block, length c) = ap (read_code w h.mode es) together ∙ whole.0.1 rest in
    let this : take (length c) s ≡ c = ap (take (length c)) together ∙ take-append_seam c rest in
    let after : drop (length c) s ≡ rest = ap (drop (length c)) together ∙ drop-append_seam c rest in
    record {
      blocks = (c, block) ∷ behind.blocks;
      read = cc (here, this, after, behind.read);
    }

-- however bits go on, the code of a block has a bit past their end
abbrev pub IsShort : Header → ℕ → List Bool → Type 0
IsShort h b left = (code more rest : List Bool) → IsCode h b code → left ++ more ≡ code ++ rest → length left < length code

module _ (h : Header) (b : ℕ) (left : List Bool) where
  pub none_of_short : IsShort h b left → read_code (width_of h.ty) h.mode (extent_of h.shape b) left ≡ None
  none_of_short short = ⊎_elim (λ none. none)
      (λ found.
      let k = found.0.1 in
      let here = read_code_whole (width_of h.ty) h.mode (extent_of h.shape b) left found.0.0 k found.1 in
      let lt = short (take k left) [] (drop k left) (found.0.0, here.1) (append-nil left ∙ sym (take-append-drop k left)) in
      absurd (omega (arith, lt, here.0, length-take-le k left here.0)))
      (none_or_some (read_code (width_of h.ty) h.mode (extent_of h.shape b) left))

  pub short_of_none : read_code (width_of h.ty) h.mode (extent_of h.shape b) left ≡ None → IsShort h b left
  short_of_none none code more rest is e = ⊎_elim (λ lt. lt)
      (λ le. grind (arith, take-append-le (length code) left more le, take_at code rest (length code) refl, take-append-drop (length code) left))
      (cases_lt (length left) (length code))

  -- what is left begins a code, which zeros behind it end
  pub begun_of_none : read_code (width_of h.ty) h.mode (extent_of h.shape b) left ≡ None → (more : List Bool) × IsCode h b (left ++ more)
  begun_of_none none =
      let zeros : List Bool = replicate (longest_code h) false in
      let s = left ++ zeros in
      let n = length left in
      ⊎_elim
      (λ e. search (rules, enough_for_one, length-extent_of, length-append, length-replicate))
      (λ found.
      let k = found.0.1 in
      let here = read_code_whole (width_of h.ty) h.mode (extent_of h.shape b) s found.0.0 k found.1 in
      let lt = short_of_none none (take k s) zeros (drop k s) (found.0.0, here.1) (sym (take-append-drop k s)) in
      let long : n ≤ k = omega (arith, lt, here.0, length-take-le k s here.0) in
      let more = drop n (take k s) in
      let is : take k s ≡ left ++ more = cc (take-append-drop n (take k s), take-take n k s long, take_at left zeros n refl) in
      (more, subst (λ (c : List Bool). IsCode h b c) is (found.0.0, here.1)))
      (none_or_some (read_code (width_of h.ty) h.mode (extent_of h.shape b) s))
