-- A file of a fixed rate: its codes have as many bits each, so no code is looked at.
use Rattle.std.proofs.Common.{◌≡◌, sym, ap, ◌∙◌, ℕ, ◌+◌, ◌*◌, ◌%◌, ◌<◌, ◌≤◌, Bool, Some, Ok, Err, List, length, take, drop, length-drop, suc-mul, arith}
use Rattle.std.proofs.Math.Nat.{mul-le-mul_right}
use Rattle.std.proofs.lemmas.List.{length-replicate, length-take-le, take-append-drop}
use Rattle.zf_spec.specs.Grid.{blocks, extent_of}
use Rattle.zf_base.specs.Widths.{width_of}
use Rattle.zf_header.{specs.declared.header.Header.{Header}, specs.declared.header.Mode.TheVariants.{Rate}}
use Rattle.zf_bits.specs.Reader.{Reader, rest}
use Rattle.zf_parse.{specs.declared.fault.StreamFault.{StreamFault}, proofs.RateStreams.{read_code-rate}}
use Rattle.zf_parse.specs.Parsing.{read_code, fill_answer, said_behind}
use Rattle.zf_index.{specs.Spans.{place, even_index}, specs.Files.{len_read, AreRead}, specs.Walks.{IsWalked}}
use Rattle.zf_index.{proofs.Places.{even_len, even_place}, proofs.Read.{judged_behind, fill_seen}}

pub even_count : (start len count : ℕ) → length (even_index start len count).lens ≡ count
even_count start len count = length-replicate count len

pub even_end : (start len count : ℕ) → place (even_index start len count) (length (even_index start len count).lens) ≡ start + count * len
even_end start len count = ap (place (even_index start len count)) (even_count start len count) ∙ even_place start len count count (omega arith)

module _ (h : Header) (rate start : ℕ) (s : List Bool) (is : h.mode ≡ Rate rate) (enough : start + blocks h.shape * rate ≤ length s) where
  -- each code is there
  pub even_read : AreRead h (even_index start rate (blocks h.shape)) s
  even_read b below =
      let n = blocks h.shape in
      let i = even_index start rate n in
      let lt : b < n = omega (arith, below, even_count start rate n) in
      let at = even_place start rate n b (omega (arith, lt)) in
      let t = drop (place i b) s in
      let more : rate + b * rate ≤ n * rate = omega (arith, suc-mul b rate, mul-le-mul_right rate lt) in
      let long : rate ≤ length t = omega (arith, length-drop (place i b) s, at, enough, more) in
      let code = take rate t in
      ap (λ (u : List Bool). len_read (read_code (width_of h.ty) h.mode (extent_of h.shape b) u)) (sym (take-append-drop rate t))
      ∙ ap len_read (read_code-rate h rate (extent_of h.shape b) code (drop rate t) is (length-take-le rate t long))
      ∙ ap Some (length-take-le rate t long ∙ sym (even_len start rate n b lt))

  pub even_within : place (even_index start rate (blocks h.shape)) (length (even_index start rate (blocks h.shape)).lens) ≤ length s
  even_within = omega (arith, even_end start rate (blocks h.shape), enough)

  -- one who sees so many of the bits behind the codes judges them all
  module _ (r : Reader) (end m : ℕ) (end_is : end ≡ start + blocks h.shape * rate) (at : r.at ≡ end % 64) (left : rest r ≡ take m (drop end s)) (many : 64 ≤ m) where
    seen : fill_answer h r.at (rest r) ≡ fill_answer h (place (even_index start rate (blocks h.shape)) (length (even_index start rate (blocks h.shape)).lens)) (drop (place (even_index start rate (blocks h.shape)) (length (even_index start rate (blocks h.shape)).lens)) s)
    seen =
        let n = blocks h.shape in
        let i = even_index start rate n in
        let there : end ≡ place i (length i.lens) = end_is ∙ sym (even_end start rate n) in
        fill_seen h i s even_read (even_count start rate n) even_within r m (at ∙ ap (λ k. k % 64) there) (left ∙ ap (λ k. take m (drop k s)) there) many

    pub even_walked : fill_answer h r.at (rest r) ≡ Ok tt → IsWalked h s (even_index start rate (blocks h.shape))
    even_walked good = record { count = even_count start rate (blocks h.shape); read = even_read; within = even_within; fill = sym seen ∙ good }

    pub even_fault : (e : StreamFault) → fill_answer h r.at (rest r) ≡ Err e → said_behind h (length s) (drop start s) ≡ Err e
    even_fault e bad =
        let n = blocks h.shape in
        judged_behind h (even_index start rate n) s even_read (even_count start rate n) even_within e (sym seen ∙ bad)
