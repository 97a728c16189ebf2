use Rattle.std.proofs.Common.{rules, ◌≡◌, ℕ, ◌-◌, ◌*◌, ◌/◌, ◌%◌, ◌<◌, ◌^◌, Bool, List, Option, ◌++◌, length, take, drop, All, take-append-drop, length-append}
use Rattle.std.proofs.lemmas.List.{take-append-le, drop-append-le, length-drop, take_at}
use Rattle.std.specs.Int.{div_ceil}
use Rattle.zf_spec.{specs.Numbers.{field, number, word_bits}, specs.Stream.{to_bits, with_fill}}
use Rattle.zf_spec.proofs.Fields.{length-field, field-number}
use Rattle.zf_dev.specs.Sink as Sink
use Rattle.zf_dev.specs.Sink.{AppendsPrefix}
use Rattle.zf_stream.{specs.Flows.{bytes_in, Flows, Spills}, proofs.OnErrors.{on_err}}
use Rattle.zf_stream.proofs.WordBytes.{to_bits-bytes_in, small-bytes_in, length-bytes_in, word_bits-take}
use Rattle.zf_stream.proofs.writing.write_whole_words.Goals as goal

-- the whole words of bits, and the bits behind them
module _ (bits : List Bool) (words : List ℕ) (is : word_bits words ≡ with_fill bits) (n : ℕ) (count_is : n ≡ length bits / 64) (fit : All (λ v. v < 2 ^ 64) (take n words)) (long : length words ≡ div_ceil (length bits) 64) where
  prefix : to_bits (bytes_in (take (length bits / 64) words)) ≡ take (64 * (length bits / 64)) bits
  prefix = search (rules, to_bits-bytes_in, word_bits-take, take-append-le)

  -- the number of the bits behind
  behind : (left last : ℕ) → left ≡ length bits % 64 → last ≡ number (take left (drop (length bits - left) (word_bits words))) → field left last ≡ drop (64 * (length bits / 64)) bits
  behind left last few value = search (rules, length-drop, drop-append-le, take_at, field-number)

  -- what was written of them
  flowed : {a b : Option (List ℕ)} (left last : ℕ) → Sink.Appends a b (bytes_in (take n words)) → left ≡ length bits % 64 → last ≡ number (take left (drop (length bits - left) (word_bits words)))
      → Flows a b bits (field left last)
  flowed {a} {b} left last written few value = search (rules, small-bytes_in, length-bytes_in, prefix, behind, take-append-drop)

  spilled : {a b : Option (List ℕ)} → AppendsPrefix a b (bytes_in (take n words)) → Spills a b bits
  spilled {a} {b} written =
      let k = length bits / 64 in
      let same : AppendsPrefix a b (bytes_in (take k words)) = rw (← count_is) written in
      let behind = take-append-drop (64 * k) bits in
      let parts : to_bits (bytes_in (take k words)) ++ drop (64 * k) bits ≡ bits = rw prefix behind in
      search (rules, small-bytes_in)

pub returns-in_err-write_words-clause-err : goal.returns-in_err-write_words-clause-err
returns-in_err-write_words-clause-err g c = search (rules, on_err, spilled)

pub returns-clause-ok : goal.returns-clause-ok
returns-clause-ok g c = search (rules, flowed)

pub returns-clause-few : goal.returns-clause-few
returns-clause-few g c = search (rules, length-append, length-field)
