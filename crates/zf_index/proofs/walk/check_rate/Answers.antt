use Rattle.std.proofs.Common.{◌≡◌, refl, sym, ap, subst, ◌∙◌, inl, ℕ, ◌+◌, ◌-◌, ◌*◌, ◌/◌, ◌%◌, ◌^◌, ◌<◌, ◌≤◌, Err, List, length, drop, length-drop, arith}
use Rattle.std.proofs.Math.Nat.{div-lt_iff_lt-mul, le-div_iff_mul-le}
use Rattle.std.proofs.lemmas.Result.{IfOk-weaker, IfErr-weaker}
use Rattle.zf_spec.{specs.Grid.{blocks}, specs.Stream.{to_bits}, proofs.Bytes.{length-to_bits}}
use Rattle.zf_bits.specs.Reader.{Reader}
use Rattle.zf_header.{specs.declared.header.Header.{Header}, specs.HeaderBits.{IsMode}}
use Rattle.zf_header.specs.declared.header.Mode.TheVariants.{Rate}
use Rattle.zf_parse.specs.ReadStreams.{BeginsWithHeader}
use Rattle.zf_parse.specs.declared.fault.StreamFault.TheVariants as faults
use Rattle.zf_parse.{proofs.Steps.{codes_answer, behind_err}, proofs.RateStreams.{read_codes-cut}}
use Rattle.zf_index.{specs.declared.fault.IndexFault.TheVariants.{Truncated}, specs.Spans.{even_index}}
use Rattle.zf_index.{specs.Files.{IsIndexOf, stream_fault}, proofs.Even.{even_walked, even_fault}}
use Rattle.zf_index.proofs.Read.{has_header, is_header, fault_is, index_is}
use Rattle.zf_index.proofs.walk.check_rate.Goals as goal

pub returns-then-whole-blocks-clause-fault : goal.returns-then-whole-blocks-clause-fault
returns-then-whole-blocks-clause-fault c =
    let file = c.args.file.now in
    let h = c.args.h.now in
    let s = to_bits file in
    let start = c.args.start in
    let rate = c.args.rate in
    let left = drop start s in
    let some : 1 ≤ rate = (subst IsMode c.requires.rate (is_header file h (has_header file h start c.requires.begun)).mode).0 in
    let whole = (c.in-Some.bits - start) / c.from-rate.result in
    let long : length left ≡ c.in-Some.bits - start = omega (arith, length-drop start s, length-to_bits file, c.in-Some.ensures) in
    let same : length left / rate ≡ whole = ap (λ n. n / rate) long ∙ ap (λ n. (c.in-Some.bits - start) / n) (sym c.from-rate.ensures) in
    let cut : length left < blocks h.shape * rate = (div-lt_iff_lt-mul some).0 (omega (arith, same, c.if-whole-blocks.true, c.blocks-2.ensures.value)) in
    let first : 0 + length left / rate ≡ whole = omega (arith, same) in
    let all : Reader = record { all = s; at = start } in
    fault_is file h start c.requires.begun all (Truncated whole) refl refl
    (inl (behind_err h (length s) left (faults.Truncated whole) (ap (codes_answer h (length s)) (read_codes-cut h rate 0 (blocks h.shape) left c.requires.rate some cut ∙ ap (λ (k : ℕ). Err k) first))))

-- all codes are there
enough : (file : List ℕ) (h : Header) (rate start bits : ℕ) → BeginsWithHeader file h start → h.mode ≡ Rate rate → bits ≡ 8 * length file → blocks h.shape ≤ (bits - start) / rate
    → start + blocks h.shape * rate ≤ length (to_bits file)
enough file h rate start bits begun is all whole =
    let some : 1 ≤ rate = (subst IsMode is (is_header file h (has_header file h start begun)).mode).0 in
    let codes : blocks h.shape * rate ≤ bits - start = (le-div_iff_mul-le some).0 whole in
    omega (arith, length-to_bits file, begun.within)

pub returns-clause-ok : goal.returns-clause-ok
returns-clause-ok c =
    let file = c.args.file.now in
    let h = c.args.h.now in
    let start = c.args.start in
    let rate = c.args.rate in
    let s = to_bits file in
    let i = even_index start rate (blocks h.shape) in
    let few : length s < 2 ^ 64 = omega (arith, length-to_bits file, c.in-Some.ensures) in
    let end = start + c.blocks-3.result * c.from-rate.result in
    let end_is : end ≡ start + blocks h.shape * rate =
    ap (λ k. start + k * c.from-rate.result) c.blocks-3.ensures.value ∙ ap (λ k. start + blocks h.shape * k) c.from-rate.ensures in
    let whole : blocks h.shape ≤ (c.in-Some.bits - start) / rate =
    omega (arith, c.if-whole-blocks.false, c.blocks-2.ensures.value, ap (λ k. (c.in-Some.bits - start) / k) c.from-rate.ensures) in
    let all = enough file h rate start c.in-Some.bits c.requires.begun c.requires.rate (omega (arith, c.in-Some.ensures)) whole in
    let seen = c.of_file.ensures in
    IfOk-weaker c.check_fill.result _ (λ _. IsIndexOf file h i)
    (λ u good. index_is file h start c.requires.begun i.lens few
    (even_walked h rate start s c.requires.rate all c.of_file.result end (128 - end % 64) end_is seen.place seen.bits (omega arith) good))
    c.check_fill.ensures.ok

pub returns-clause-fault : goal.returns-clause-fault
returns-clause-fault c =
    let file = c.args.file.now in
    let h = c.args.h.now in
    let start = c.args.start in
    let rate = c.args.rate in
    let s = to_bits file in
    let end = start + c.blocks-3.result * c.from-rate.result in
    let end_is : end ≡ start + blocks h.shape * rate =
    ap (λ k. start + k * c.from-rate.result) c.blocks-3.ensures.value ∙ ap (λ k. start + blocks h.shape * k) c.from-rate.ensures in
    let whole : blocks h.shape ≤ (c.in-Some.bits - start) / rate =
    omega (arith, c.if-whole-blocks.false, c.blocks-2.ensures.value, ap (λ k. (c.in-Some.bits - start) / k) c.from-rate.ensures) in
    let all = enough file h rate start c.in-Some.bits c.requires.begun c.requires.rate (omega (arith, c.in-Some.ensures)) whole in
    let seen = c.of_file.ensures in
    IfErr-weaker c.check_fill.result _ _
    (λ e bad. fault_is file h start c.requires.begun (record { all = s; at = start }) e refl refl
    (inl (even_fault h rate start s c.requires.rate all c.of_file.result end (128 - end % 64) end_is seen.place seen.bits (omega arith) (stream_fault e) bad)))
    c.check_fill.ensures.err
