-- Raw values that are read row by row: what is refused, and what is said of it.
use Rattle.std.proofs.Common.{rules, ◌≡◌, refl, ap, ℕ, ◌+◌, ◌<◌, ◌≤◌, cond, ltb, lt-ltb, le-ltb, List, [], ◌∷◌, ◌++◌, length, Option, Some, None, Ok, Err, length-append, arith}
use Rattle.zf_dev.{specs.Source.{Takes, TakesSome}, proofs.Taking.{Takes-append}}
use Rattle.zf_header.specs.declared.header.Header.{Header}
use Rattle.zf_parse.specs.declared.fault.StreamFault.{StreamFault}
use Rattle.zf_parse.specs.Raw.{raw_len, length_answer, compress_answer}
use Rattle.zf_parse.specs.declared.fault.StreamFault.TheVariants as faults
use Rattle.zf_stream.specs.ReadRaw.{EndsShort, LacksRaw, GoesOn}
use Rattle.zf_stream.specs.Outcomes.{IsFromOutside, IsRefusal, RefusesRaw}
use Rattle.zf_stream.proofs.Refusals.{CanRefuse-short, CanRefuse-long}

-- the answer for as many bytes
pub short_answer : (wanted : ℕ) (bytes : List ℕ) → length bytes < wanted → length_answer wanted bytes ≡ Err (faults.RawShort (length bytes))
short_answer wanted bytes few =
    ap (λ t. cond t (Err (faults.RawShort (length bytes))) (cond (ltb wanted (length bytes)) (Err faults.RawLong) (Ok tt))) (lt-ltb (length bytes) wanted few)

pub long_answer : (wanted : ℕ) (bytes : List ℕ) → wanted < length bytes → length_answer wanted bytes ≡ Err faults.RawLong
long_answer wanted bytes many = search (rules, le-ltb, lt-ltb)

pub good_answer : (wanted : ℕ) (bytes : List ℕ) → length bytes ≡ wanted → length_answer wanted bytes ≡ Ok tt
good_answer wanted bytes same = search (rules, le-ltb)

-- what was taken where the source ended, or it failed
pub some_taken : (before wanted : ℕ) (old new : Option (List ℕ)) (e : StreamFault) → LacksRaw before wanted old new e → TakesSome old new
some_taken before wanted old new (faults.RawShort n) lacks = (lacks.bytes, lacks.taken)
some_taken before wanted old new faults.Read lacks = lacks
some_taken before wanted old new e lacks = absurd lacks

pub some_more : (mid now : Option (List ℕ)) (e : StreamFault) → GoesOn mid now e → TakesSome mid now
some_more mid now faults.RawLong more = (more.0 ∷ [], more.1)
some_more mid now faults.Read more = more
some_more mid now e more = absurd more

module _ (h : Header) (known now : Option (List ℕ)) where
  outside : (known : Option (List ℕ)) (e : StreamFault) → IsFromOutside e → IsRefusal known (compress_answer h) e
  outside _ e is = search rules

  -- a device failed
  pub read_refused : (e : StreamFault) → e ≡ faults.Read → RefusesRaw (compress_answer h) (raw_len h) known now e
  read_refused e is = search (rules, outside)

  pub write_refused : (e : StreamFault) → e ≡ faults.Write → RefusesRaw (compress_answer h) (raw_len h) known now e
  write_refused e is = search (rules, outside)

-- fewer bytes than the array has
module _ (h : Header) (known mid now : Option (List ℕ)) (bytes : List ℕ) (taken : Takes known mid bytes) (wanted : ℕ) (within : length bytes + wanted ≤ raw_len h) where
  short_refusal : (n : ℕ) (known : Option (List ℕ)) → Takes known mid bytes → EndsShort (length bytes) wanted mid now n → IsRefusal known (compress_answer h) (faults.RawShort n)
  short_refusal n None from lacks = tt
  short_refusal n (Some all) from lacks = search (rules, length-append, short_answer)

  pub raw_refused : (e : StreamFault) → LacksRaw (length bytes) wanted mid now e → RefusesRaw (compress_answer h) (raw_len h) known now e
  raw_refused (faults.RawShort n) lacks = record {
    refused = short_refusal n known taken lacks;
    possible = CanRefuse-short (raw_len h) n (omega (arith, lacks.count_is, lacks.few));
    shows = lacks.ended;
    unwanted = λ is. cc;
  }
  raw_refused faults.Read lacks = read_refused h known now faults.Read refl
  raw_refused e lacks = absurd lacks

-- a byte behind those of the array
module _ (h : Header) (known mid now : Option (List ℕ)) (bytes : List ℕ) (taken : Takes known mid bytes) (all : length bytes ≡ raw_len h) where
  long_refusal : (known mid now : Option (List ℕ)) (byte : ℕ) → Takes known mid bytes → Takes mid now (byte ∷ []) → IsRefusal known (compress_answer h) faults.RawLong
  long_refusal None mid now byte from next = tt
  long_refusal (Some input) mid now byte from next = search (rules, length-append, long_answer)

  pub more_refused : (e : StreamFault) → GoesOn mid now e → RefusesRaw (compress_answer h) (raw_len h) known now e
  more_refused faults.RawLong more =
      let next = Takes-append known mid now bytes (more.0 ∷ []) taken more.1 in
      record {
        refused = long_refusal known mid now more.0 taken more.1;
        possible = CanRefuse-long (raw_len h);
        shows = (bytes ++ more.0 ∷ [], omega (arith, length-append bytes (more.0 ∷ []), all), next);
        unwanted = λ is. cc;
      }
  more_refused faults.Read more = read_refused h known now faults.Read refl
  more_refused e more = absurd more
