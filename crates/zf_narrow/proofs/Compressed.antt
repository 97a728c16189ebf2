-- How a compression of narrow values ends, from how that of their int32 bytes does.
use Rattle.std.proofs.Common.{rules, ◌≡◌, refl, ap, ◌∙◌, ℕ, ◌+◌, ◌*◌, ◌/◌, ◌%◌, ◌≤◌, ◌<◌, ◌⊎◌, inl, inr, Bool, false, IsTrue, List, [], ◌++◌, length, drop, replicate, Option, Some, None, Result, Ok, Err, append-nil, length-append, arith}
use Rattle.std.{specs.Prelude.{IsErrAnd}, proofs.lemmas.Bool.{cases_lt}}
use Rattle.std.proofs.lemmas.List.{drop_all, length-drop, length-replicate}
use Rattle.zf_spec.specs.Grid.{product}
use Rattle.zf_base.specs.declared.lane.Ty.TheVariants.{I32}
use Rattle.zf_header.specs.declared.header.Header.{Header}
use Rattle.zf_dev.specs.Logs.{noted}
use Rattle.zf_dev.{specs.Source.{Takes, Gives, IsAtEnd}}
use Rattle.zf_parse.specs.declared.fault.StreamFault.{StreamFault}
use Rattle.zf_parse.specs.Raw.{raw_len, length_answer, compress_answer, stream_text}
use Rattle.zf_parse.specs.declared.fault.StreamFault.TheVariants as faults
use Rattle.zf_stream.specs.Outcomes.{Compressed, CompressedGiven, Answers, CanRefuse, ShowsLength, Finishes, LeavesPrefix, WritesText, WritesPrefix, IsFromOutside}
use Rattle.zf_stream.proofs.RawRows.{short_answer, long_answer, good_answer}
use Rattle.zf_stream.{proofs.Refusals.{CanRefuse-short, CanRefuse-long}, proofs.LookedAt.{stream_text-zeros}}
use Rattle.zf_narrow.{specs.declared.narrow.Narrow.{Narrow}, specs.Values.{size_of}}
use Rattle.zf_narrow.{specs.RawNarrow.{promoted_bytes, promoted_all}, specs.Promoting.{listed, exposed_by}}
use Rattle.zf_narrow.{specs.declared.promotion.Promotion.{Promotion}, proofs.Reading.{exposed_unspent}}
use Rattle.zf_narrow.specs.Promotions.{exposed, read_so_far, zeros_given, HasGiven}
use Rattle.zf_narrow.specs.Texts.{narrow_len, narrow_count, narrow_fault, compress_narrow_answer, narrow_text}
use Rattle.zf_narrow.proofs.Whole.{length-promoted_bytes, length-promoted_all}
use Rattle.zf_narrow.proofs.Giving.{Gave, gave, source_ended, IsGiven, promoted_bytes-half, part_given_text, all_given_text}

-- ---- lengths

pub raw_len-int32 : (h : Header) → h.ty ≡ I32 → raw_len h ≡ 4 * product h.shape
raw_len-int32 h int32 = rw int32 refl

-- fewer, as many or more: the same of the narrow bytes as of their int32 bytes
same_few : (n : Narrow) (l p : ℕ) → l / size_of n * 4 + l % size_of n < 4 * p → l < size_of n * p
same_few n l p few = grind arith

same_all : (n : Narrow) (l p : ℕ) → l / size_of n * 4 + l % size_of n ≡ 4 * p → (l ≡ size_of n * p) × (l % size_of n ≡ 0)
same_all n l p all = grind arith

same_many : (n : Narrow) (l p z : ℕ) → z ≤ l % size_of n → 4 * p < l / size_of n * 4 + z → size_of n * p < l
same_many n l p z half many = grind arith

count_back : (n : Narrow) (l : ℕ) → narrow_count n (l / size_of n * 4 + l % size_of n) ≡ l
count_back n l = grind arith

count_few : (n : Narrow) (k p : ℕ) → k < 4 * p → narrow_count n k < size_of n * p
count_few n k p few = grind arith

-- as many bytes as values have, though some be pending or a zero byte was given
count_given : (n : Narrow) (t k half z p : ℕ) → t % size_of n ≡ 0 → 4 * p + k ≡ t / size_of n * 4 + z → k ≤ 3 → half < size_of n → (z ≡ 0) ⊎ ((z ≡ half) × (k ≡ 0)) → t ≡ size_of n * p
count_given n t k half z p whole is few less one = grind arith

-- ---- answers

-- what an answer on a length says
abbrev LengthSays : ℕ → List ℕ → Result (Unit {0}) StreamFault → Type 0
LengthSays wanted bytes (Ok done) = length bytes ≡ wanted
LengthSays wanted bytes (Err (faults.RawShort k)) = (length bytes ≡ k) × (length bytes < wanted)
LengthSays wanted bytes (Err faults.RawLong) = wanted < length bytes
LengthSays wanted bytes (Err e) = ⊥

pub length_says : (wanted : ℕ) (bytes : List ℕ) (r : Result (Unit {0}) StreamFault) → length_answer wanted bytes ≡ r → LengthSays wanted bytes r
length_says wanted bytes r is = search (rules, cases_lt, short_answer, long_answer, good_answer)

-- a refusal of int32 bytes as one of the narrow bytes
abbrev narrow_result : Narrow → Result (Unit {0}) StreamFault → Result (Unit {0}) StreamFault
narrow_result n (Ok done) = Ok done
narrow_result n (Err e) = Err (narrow_fault n e)

same_answer : (n : Narrow) (h : Header) (input : List ℕ) → h.ty ≡ I32 → narrow_result n (compress_answer h (promoted_all n input)) ≡ compress_narrow_answer n h input
same_answer n h input int32 = search (rules, cases_lt, length-promoted_all, short_answer, count_back, same_few, raw_len-int32, long_answer, same_many)

short_not_outside : (k : ℕ) → IsFromOutside (faults.RawShort k) → ⊥
short_not_outside k out = search rules

outside_still : (n : Narrow) (r : Result (Unit {0}) StreamFault) → IsErrAnd r IsFromOutside → IsErrAnd (narrow_result n r) IsFromOutside
outside_still n (Ok done) is = absurd is
outside_still n (Err (faults.RawShort k)) is = absurd (short_not_outside k is)
outside_still n r is = is

narrow_answers : (n : Narrow) (h : Header) (known : Option (List ℕ)) (r : Result (Unit {0}) StreamFault) → h.ty ≡ I32 → Answers r (exposed_by n false [] [] known) (compress_answer h)
    → Answers (narrow_result n r) known (compress_narrow_answer n h)
narrow_answers n h None r int32 answers = tt
narrow_answers n h (Some input) r int32 (inl is) = inl (ap (narrow_result n) is ∙ same_answer n h input int32)
narrow_answers n h (Some input) r int32 (inr out) = inr (outside_still n r out)

-- ---- refusals

fault_possible : (n : Narrow) (h : Header) (e : StreamFault) → h.ty ≡ I32 → CanRefuse (compress_answer h) e → CanRefuse (compress_narrow_answer n h) (narrow_fault n e)
fault_possible n h (faults.RawShort k) int32 (inl is) =
    let says = length_says (raw_len h) is.0 (Err (faults.RawShort k)) is.1 in
    CanRefuse-short (narrow_len n h) (narrow_count n k) (count_few n k (product h.shape) (omega (arith, says.0, says.1, raw_len-int32 h int32)))
fault_possible n h (faults.RawShort k) int32 (inr out) = absurd (short_not_outside k out)
fault_possible n h faults.RawLong int32 can = CanRefuse-long (narrow_len n h)
fault_possible n h e int32 (inl is) = absurd (length_says (raw_len h) is.0 (Err e) is.1)
fault_possible n h e int32 (inr out) = inr out

-- ---- what was read and written

-- a promotion that began with nothing read, once some bytes were given: what was read, and what is to come
pub record Promotes (n : Narrow) (known now : Option (List ℕ)) (spent : Bool) (pending half taken : List ℕ) : Type 0 where
  pub whole : length taken % size_of n ≡ 0
  pub less : length half < size_of n
  pub few : length pending ≤ 3
  pub all : IsTrue spent → pending ≡ []
  pub spent_end : IsTrue spent → IsAtEnd now
  pub read : Takes known now (taken ++ half)

module _ (n : Narrow) (h : Header) (int32 : h.ty ≡ I32) (spent : Bool) (pending half taken : List ℕ) where
  -- all that was read
  abbrev bytes : List ℕ
  bytes = taken ++ half

  -- what a source that exposes its contents gave of what was read
  gave_exposed : (input : List ℕ) (now : Option (List ℕ)) (raw : List ℕ) → Promotes n (Some input) now spent pending half taken → Takes (exposed_by n false [] [] (Some input)) (exposed_by n spent pending half now) raw → Gave n bytes raw
  gave_exposed input None raw p given = absurd p.read
  gave_exposed input (Some left) raw p given = gave n spent pending half taken input left raw p.read given p.whole p.less p.few p.all p.spent_end

  -- at its end all was given
  gave_all : (input : List ℕ) (now : Option (List ℕ)) (raw : List ℕ) → Promotes n (Some input) now spent pending half taken → Takes (exposed_by n false [] [] (Some input)) (exposed_by n spent pending half now) raw
      → IsAtEnd (exposed_by n spent pending half now) → raw ≡ promoted_all n bytes
  gave_all input now raw p given end = search (rules, source_ended)

  -- what was given of what was read
  abbrev WasGiven : List ℕ → Type 0
  WasGiven raw = IsGiven n h pending taken (zeros_given spent half) raw

  -- where as many int32 bytes were given as the array has, as many narrow ones were read
  pub whole_read : (raw : List ℕ) → length half < size_of n → length taken % size_of n ≡ 0 → length pending ≤ 3 → (IsTrue spent → pending ≡ []) → WasGiven raw → length raw ≡ raw_len h → length taken ≡ narrow_len n h
  whole_read raw less whole few all given long =
      let z = zeros_given spent half in
      let counts = simp (length-append, length-promoted_bytes, length-replicate) at (ap length given) in search (rules, count_given, raw_len-int32)

  -- all of the input was read and given, and its stream written
  pub compresses : (known now out0 out1 : Option (List ℕ)) → Promotes n known now spent pending half taken
      → Finishes (compress_answer h) (stream_text h) (exposed_by n false [] [] known) (exposed_by n spent pending half now) out0 out1 → WritesText (compress_answer h) (stream_text h) WasGiven out0 out1
      → Finishes (compress_narrow_answer n h) (narrow_text n h) known now out0 out1
  compresses None now out0 out1 p fin writes =
      let all : length writes.bytes ≡ raw_len h = length_says (raw_len h) writes.bytes (Ok tt) writes.good in
      let text = all_given_text n h pending taken (zeros_given spent half) writes.bytes writes.given (omega (arith, all)) in
      search (rules, source_ended, good_answer, whole_read, text)
  compresses (Some input) now out0 out1 p fin writes = search (rules, gave_all, length_says, same_all, length-promoted_all, raw_len-int32, source_ended, good_answer, stream_text-zeros)

  -- how much was read where the length was refused
  pub shows : (known now : Option (List ℕ)) (e : StreamFault) → Promotes n known now spent pending half taken
      → ShowsLength (raw_len h) (exposed_by n false [] [] known) (exposed_by n spent pending half now) e → ShowsLength (narrow_len n h) known now (narrow_fault n e)
  shows known now (faults.RawShort k) p shown = source_ended n spent pending half now shown p.spent_end
  shows None now faults.RawLong p shown = (replicate (narrow_len n h + 1) 0, omega (arith, length-replicate {A = ℕ} (narrow_len n h + 1) 0), tt)
  shows (Some input) now faults.RawLong p shown =
      let g = gave_exposed input now shown.0 p shown.2 in
      let counts = length-append (promoted_bytes n bytes) (replicate g.zeros 0) in
      let long : length shown.0 + length g.pending ≡ length bytes / size_of n * 4 + g.zeros =
      omega (arith, length-append shown.0 g.pending, ap length g.parts, counts, length-promoted_bytes n bytes, length-replicate {A = ℕ} g.zeros 0) in
      (bytes, same_many n (length bytes) (product h.shape) g.zeros g.half (omega (arith, shown.1, long, raw_len-int32 h int32)), p.read)
  shows known now e p shown = tt

  -- a part was read, and a prefix of the stream of its values written
  pub leaves : (known now out0 out1 : Option (List ℕ)) → Promotes n known now spent pending half taken → WritesPrefix (stream_text h) WasGiven out0 out1 → LeavesPrefix (narrow_text n h) known now out0 out1
  leaves known now out0 out1 p writes =
      let text = part_given_text n h pending taken (zeros_given spent half) writes.bytes writes.lost writes.given in
      let same = rw (text, ← promoted_bytes-half n taken half p.whole p.less) at (writes.written (writes.lost ++ pending)) in
      record { bytes = bytes; taken = p.read; written = same }

-- ---- the promotion that the source had when the call began, and the one that it has now

-- memory is wanting where it was for the int32 bytes
memory_is : (n : Narrow) (e : StreamFault) → narrow_fault n e ≡ faults.Memory → e ≡ faults.Memory
memory_is n e same = grind arith

pub record Runs (n : Narrow) (known now : Option (List ℕ)) (old new : Promotion) : Type 0 where
  pub same_old : old.narrow ≡ n
  pub at_old : old.at ≡ 4
  pub four_old : length old.value ≡ 4
  pub half_old : listed old.half ≡ []
  pub unspent_old : IsTrue old.spent → ⊥
  pub same : new.narrow ≡ n
  pub four : length new.value ≡ 4
  pub taken_old : noted old.taken ≡ []
  pub spent_end : IsTrue new.spent → IsAtEnd now
  pub read : Takes known now (read_so_far new)

module _ (n : Narrow) {known now : Option (List ℕ)} (old new : Promotion) (r : Runs n known now old new) where
  exposed_old : exposed old known ≡ exposed_by n false [] [] known
  exposed_old = search (rules, exposed_unspent)

  exposed_new : exposed new now ≡ exposed_by n new.spent (drop new.at new.value) (listed new.half) now
  exposed_new = ap (λ m. exposed_by m new.spent (drop new.at new.value) (listed new.half) now) r.same

  pub promotes : Promotes n known now new.spent (drop new.at new.value) (listed new.half) (noted new.taken)
  promotes = search (rules, length-drop, drop_all)

  -- nothing was given before
  pub none_given : HasGiven old []
  none_given = search (rules, drop_all, append-nil)

  -- what was given since then
  pub given_by : (h : Header) (raw : List ℕ) → Gives (HasGiven old) (HasGiven new) raw → IsGiven n h (drop new.at new.value) (noted new.taken) (zeros_given new.spent (listed new.half)) raw
  given_by h raw gives = rw (← r.same) (gives.goes_on [] none_given)

  run_compresses : (h : Header) (out0 out1 : Option (List ℕ)) → h.ty ≡ I32 → Finishes (compress_answer h) (stream_text h) (exposed old known) (exposed new now) out0 out1
      → WritesText (compress_answer h) (stream_text h) (Gives (HasGiven old) (HasGiven new)) out0 out1 → Finishes (compress_narrow_answer n h) (narrow_text n h) known now out0 out1
  run_compresses h out0 out1 int32 fin writes =
      compresses n h int32 new.spent (drop new.at new.value) (listed new.half) (noted new.taken) known now out0 out1 promotes (rw (exposed_old, exposed_new) at fin) (search (rules, given_by))

  run_shows : (h : Header) (e : StreamFault) → h.ty ≡ I32 → ShowsLength (raw_len h) (exposed old known) (exposed new now) e → ShowsLength (narrow_len n h) known now (narrow_fault n e)
  run_shows h e int32 shown = shows n h int32 new.spent (drop new.at new.value) (listed new.half) (noted new.taken) known now e promotes (rw (exposed_old, exposed_new) at shown)

  run_leaves : (h : Header) (out0 out1 : Option (List ℕ)) → h.ty ≡ I32 → WritesPrefix (stream_text h) (Gives (HasGiven old) (HasGiven new)) out0 out1 → LeavesPrefix (narrow_text n h) known now out0 out1
  run_leaves h out0 out1 int32 writes =
      leaves n h int32 new.spent (drop new.at new.value) (listed new.half) (noted new.taken) known now out0 out1 promotes
      (record { bytes = writes.bytes; lost = writes.lost; given = given_by h (writes.bytes ++ writes.lost) writes.given; written = writes.written })

  run_answers : (h : Header) (r : Result (Unit {0}) StreamFault) → h.ty ≡ I32 → Answers r (exposed old known) (compress_answer h) → Answers (narrow_result n r) known (compress_narrow_answer n h)
  run_answers h r int32 answers = narrow_answers n h known r int32 (rw exposed_old at answers)

  -- how it ends
  pub run_good : (h : Header) (out0 out1 : Option (List ℕ)) → h.ty ≡ I32 → Compressed (compress_answer h) (stream_text h) (raw_len h) (Ok tt) (exposed old known) (exposed new now) out0 out1
      → CompressedGiven (compress_answer h) (stream_text h) (Ok tt) (Gives (HasGiven old) (HasGiven new)) out0 out1 → Compressed (compress_narrow_answer n h) (narrow_text n h) (narrow_len n h) (Ok tt) known now out0 out1
  run_good h out0 out1 int32 done given = search (rules, run_answers h (Ok tt) int32 done.answer, shows, run_compresses)

  pub run_fault : (h : Header) (e : StreamFault) (out0 out1 : Option (List ℕ)) → h.ty ≡ I32 → Compressed (compress_answer h) (stream_text h) (raw_len h) (Err e) (exposed old known) (exposed new now) out0 out1
      → CompressedGiven (compress_answer h) (stream_text h) (Err e) (Gives (HasGiven old) (HasGiven new)) out0 out1 → Compressed (compress_narrow_answer n h) (narrow_text n h) (narrow_len n h) (Err (narrow_fault n e)) known now out0 out1
  run_fault h e out0 out1 int32 done given = record {
    answer = run_answers h (Err e) int32 done.answer;
    possible = fault_possible n h e int32 done.possible;
    shows = run_shows h e int32 done.shows;
    ok = tt;
    err = run_leaves h out0 out1 int32 given.err;
    unwritten = λ same. done.unwritten (ap Err (memory_is n e (cc)));
  }
