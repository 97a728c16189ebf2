-- What is read of a few of the bits of a file.
use Rattle.std.proofs.Common.{◌≡◌, ⊎_elim, sym, ap, ◌∙◌, ℕ, ◌≤◌, Bool, List, length, take, drop, arith}
use Rattle.std.proofs.lemmas.Bool.{cases_lt}
use Rattle.std.proofs.lemmas.List.{take_all, take-append-drop, length-take-le}
use Rattle.zf_base.specs.Widths.{width_of}
use Rattle.zf_header.specs.declared.header.Header.{Header}
use Rattle.zf_parse.{specs.Parsing.{read_code, longest_code, fill_answer}, proofs.Enough.{enough_for_one}}
use Rattle.zf_parse.{proofs.Fill.{fill_told}, proofs.TextOfParse.{read_code_more}, proofs.Steps.{none_or_some}}

-- what is read of as many bits as the longest code has is read of all
pub cut_told : (h : Header) (es : List ℕ) (s : List Bool) (m : ℕ) → length es ≡ length h.shape → longest_code h ≤ m → read_code (width_of h.ty) h.mode es (take m s) ≡ read_code (width_of h.ty) h.mode es s
cut_told h es s m dims enough =
    let read = λ (t : List Bool). read_code (width_of h.ty) h.mode es t in
    let prefix = take m s in
    ⊎_elim
    (λ more.
    let long : length prefix ≡ m = length-take-le m s (omega (arith, more)) in
    ⊎_elim (λ none. absurd (enough_for_one h es prefix dims (omega (arith, enough, long)) none))
    (λ code. code.1 ∙ sym (read_code_more (width_of h.ty) h.mode es prefix (drop m s) code.0 code.1).0 ∙ ap read (take-append-drop m s))
    (none_or_some (read prefix)))
    (λ all. ap read (take_all m s all))
    (cases_lt m (length s))

-- and so is the fill
pub fill_cut : (h : Header) (used : ℕ) (s : List Bool) (m : ℕ) → 64 ≤ m → fill_answer h used (take m s) ≡ fill_answer h used s
fill_cut h used s m enough = ⊎_elim
    (λ more.
    sym (fill_told h used (take m s) (drop m s) (omega (arith, enough, length-take-le m s (omega (arith, more)))))
    ∙ ap (fill_answer h used) (take-append-drop m s))
    (λ all. ap (fill_answer h used) (take_all m s all))
    (cases_lt m (length s))
