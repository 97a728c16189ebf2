-- What is restored of a good stream stays the same with bytes behind it.
use Rattle.std.proofs.Common.{◌≡◌, refl, sym, ap, ◌∙◌, ℕ, ℤ, Bool, false, List, ◌++◌, length, drop, replicate, Result, Ok, Err, append_assoc, arith}
use Rattle.std.{proofs.lemmas.List.{drop-append-le}, proofs.lemmas.Grind.{flat_map-append}}
use Rattle.zf_spec.{specs.Grid.{blocks}, specs.Stream.{to_bits}, specs.Numbers.{field}, proofs.Bytes.{length-to_bits}}
use Rattle.zf_header.{specs.HeaderBits.{header_bits}, proofs.Good.{good}, proofs.Found.{read_is_spelled, begins_within}}
use Rattle.zf_parse.{specs.declared.fault.StreamFault.{StreamFault}, specs.ReadStreams.{BeginsWithHeader}}
use Rattle.zf_parse.specs.Parsing.{header_of, longest_codes, read_codes, restore_answer, restored_text}
use Rattle.zf_parse.{proofs.Steps.{values_said, without_values, restore_answer-values, blocks_text}, proofs.Parsed.{parse_is, begun_more, good_header}}
use Rattle.zf_parse.proofs.TextOfParse.{read_codes_more, codes_good}
use Rattle.zf_stream.{specs.Restoring.{text_of_codes}, proofs.FromPrefix.{text_is}}

-- where an answer is good there are values
has_values : (r : Result (List ℤ) StreamFault) → without_values r ≡ Ok tt → (values : List ℤ) × (r ≡ Ok values)
has_values (Ok values) is = (values, refl)
has_values (Err e) is = absurd (cc)

pub good_text : (bytes rest : List ℕ) → restore_answer bytes ≡ Ok tt → restored_text (bytes ++ rest) ≡ restored_text bytes
good_text bytes rest is =
    let none = good_header bytes is in
    let h = header_of bytes in
    let len = length (header_bits h) in
    let begun : BeginsWithHeader bytes h len = record { good = none; header = refl; bits_is = refl; within = begins_within bytes h (read_is_spelled bytes (good bytes (sym none))) } in
    let s = drop len (to_bits bytes) in
    let more = to_bits rest in
    let zeros = replicate (longest_codes h) false in
    let n = blocks h.shape in
    let said = has_values (values_said bytes) (sym (restore_answer-values bytes) ∙ is) in
    let found = codes_good h (length (to_bits bytes)) (read_codes h 0 n s) said.0 (sym (parse_is bytes h len begun) ∙ said.1) in
    let here : text_of_codes h s ≡ blocks_text h (Ok (found.0.0, found.0.1 ++ zeros)) = ap (blocks_text h) (read_codes_more h 0 n s zeros found.0 found.1) in
    let there : text_of_codes h (s ++ more) ≡ blocks_text h (Ok (found.0.0, found.0.1 ++ (more ++ zeros))) =
    ap (λ (t : List Bool). blocks_text h (read_codes h 0 n t)) (append_assoc s more zeros) ∙ ap (blocks_text h) (read_codes_more h 0 n s (more ++ zeros) found.0 found.1) in
    let bits : drop len (to_bits (bytes ++ rest)) ≡ s ++ more =
    ap (drop len) (flat_map-append (field 8) bytes rest) ∙ drop-append-le len (to_bits bytes) more (omega (arith, begun.within, length-to_bits bytes)) in
    sym (text_is (bytes ++ rest) h len (begun_more bytes rest h len begun)) ∙ ap (text_of_codes h) bits ∙ there ∙ sym here ∙ text_is bytes h len begun
