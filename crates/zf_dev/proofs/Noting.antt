-- One entry more in a log.
use Rattle.std.proofs.Common.{◌≡◌, ℕ, true, List, [], ◌∷◌, ◌++◌, take, refl, sym, ap, ◌∙◌, append_assoc, append-nil}
use Rattle.zf_dev.{specs.Source.{Gives}, specs.Logs.{Entry, all_bytes, is_empty, ends_empty}}

all_bytes-more : (es : List Entry) (name bytes : List ℕ) → all_bytes (es ++ (name, bytes) ∷ []) ≡ all_bytes es ++ bytes
all_bytes-more [] name bytes = append-nil bytes
all_bytes-more (e ∷ es) name bytes = ap (λ bs. e.1 ++ bs) (all_bytes-more es name bytes) ∙ sym (append_assoc e.1 (all_bytes es) bytes)

pub noted-more : (es now : List Entry) (name bytes : List ℕ) → now ≡ es ++ (name, bytes) ∷ [] → all_bytes now ≡ all_bytes es ++ bytes
noted-more es now name bytes is = ap all_bytes is ∙ all_bytes-more es name bytes

-- a source whose log has one entry more gave its bytes
pub Gives-noted : (es now : List Entry) (name bytes : List ℕ) → now ≡ es ++ (name, bytes) ∷ [] → Gives (λ bs. all_bytes es ≡ bs) (λ bs. all_bytes now ≡ bs) bytes
Gives-noted es now name bytes is = record { goes_on = λ so_far gave. noted-more es now name bytes is ∙ ap (λ bs. bs ++ bytes) gave }

ends_empty-more : (es : List Entry) (name bytes : List ℕ) → ends_empty (es ++ (name, bytes) ∷ []) ≡ is_empty bytes
ends_empty-more [] name bytes = refl
ends_empty-more (e ∷ []) name bytes = refl
ends_empty-more (e ∷ f ∷ fs) name bytes = ends_empty-more (f ∷ fs) name bytes

-- a source whose last read gave no byte has ended
pub ended-noted : (es now : List Entry) (name buf : List ℕ) (n : ℕ) → now ≡ es ++ (name, take n buf) ∷ [] → n ≡ 0 → ends_empty now ≡ true
ended-noted es now name buf n is none = ap ends_empty is ∙ (ends_empty-more es name (take n buf) ∙ ap (λ k. is_empty (take k buf)) none)
