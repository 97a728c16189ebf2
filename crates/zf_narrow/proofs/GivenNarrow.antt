-- How a compression of narrow values ends, told of what the source says that it gave.
use Rattle.std.proofs.Common.{◌≡◌, refl, sym, ap, ◌∙◌, ℕ, ◌%◌, ◌≤◌, Bool, true, false, IsTrue, List, [], ◌∷◌, ◌++◌, length, drop, replicate, Option, Some, None, Ok, append_assoc, append-nil, length-append, arith}
use Rattle.std.{specs.Prelude.{◌||◌, is_none}, proofs.lemmas.Bool.{false≢true, and_parts}}
use Rattle.zf_base.specs.declared.lane.Ty.TheVariants.{I32}
use Rattle.zf_header.specs.declared.header.Header.{Header}
use Rattle.zf_dev.specs.Logs.{noted}
use Rattle.zf_dev.{specs.Source.{Gives}, proofs.Giving.{Gives-none, Gives-append, Gives-still, Gives-from}}
use Rattle.zf_parse.{specs.Raw.{raw_len, compress_answer, stream_text}}
use Rattle.zf_stream.{specs.Outcomes.{WritesText, WritesPrefix}, proofs.RawRows.{good_answer}}
use Rattle.zf_narrow.{specs.declared.narrow.Narrow.{Narrow}, specs.RawNarrow.{promoted_bytes}}
use Rattle.zf_narrow.{specs.declared.promotion.Promotion.{Promotion}, specs.Promoting.{listed}}
use Rattle.zf_narrow.specs.Promotions.{read_so_far, zeros_given, is_over, HasGiven, HasGivenOf, Logs}
use Rattle.zf_narrow.specs.Texts.{narrow_len, compress_narrow_answer, narrow_text}
use Rattle.zf_narrow.proofs.Whole.{promoted_bytes-append, length-promoted_bytes}
use Rattle.zf_narrow.proofs.Compressed.{Runs, raw_len-int32, length_says, whole_read, none_given, given_by, promotes}
use Rattle.zf_narrow.{proofs.Giving.{all_given_text}, proofs.ZeroBytes.{zero_behind}}

-- ---- one read more

pub gives_of : {p q : Promotion} {start a b : List ℕ → Type 0} {before now : Option (List ℕ)} (bytes : List ℕ) → Gives (HasGiven p) (HasGiven q) bytes → Logs p q before now (Gives a b) → Gives (HasGivenOf p start a) (HasGivenOf q start b) bytes
gives_of {p} {q} {start} {a} {b} {before} {now} bytes gives logs = record {
  goes_on = λ so_far has. (gives.goes_on so_far has.0, rw (← logs.logged) (Gives-append (read_so_far p) logs.bytes has.1 logs.given));
}

-- a call that only said something
pub gives_still : (p : Promotion) {start a b : List ℕ → Type 0} → Gives a b [] → Gives (HasGivenOf p start a) (HasGivenOf p start b) []
gives_still p {start} {a} {b} none = record {
  goes_on = λ so_far has. ((Gives-none (HasGiven p)).goes_on so_far has.0, Gives-still (read_so_far p) has.1 none);
}

-- ---- the end

-- it was told, and nothing is left of half a value
pub over_none : (p : Promotion) (ended : Bool) → ended ≡ true → length (listed p.half) ≡ 0 → is_over p ended ≡ true
over_none p ended told none = rw told (by p.half none)
  where
    by : (half : Option ℕ) → length (listed half) ≡ 0 → (is_none half || p.spent) ≡ true
    by None none = refl
    by (Some b) none = absurd (omega (arith, none))

-- or its zero byte was given
pub over_spent : (p : Promotion) (ended : Bool) → ended ≡ true → IsTrue p.spent → is_over p ended ≡ true
over_spent p ended told spent = rw told (by p.half p.spent spent)
  where
    by : (half : Option ℕ) (b : Bool) → IsTrue b → (is_none half || b) ≡ true
    by None b spent = refl
    by (Some x) b spent = spent

-- so nothing is left where whole values were given
no_half : (n : Narrow) (half : Option ℕ) (spent : Bool) (pending taken raw : List ℕ) → (is_none half || spent) ≡ true → (IsTrue spent → pending ≡ []) → raw ++ pending ≡ promoted_bytes n taken ++ replicate (zeros_given spent (listed half)) 0 → length raw % 4 ≡ 0 → listed half ≡ []
no_half n None spent pending taken raw over all given whole = refl
no_half n (Some b) false pending taken raw over all given whole = absurd (false≢true over)
no_half n (Some b) true pending taken raw over all given whole =
    absurd (omega (arith, whole, ap length given, ap length (all refl), length-append raw pending, length-append (promoted_bytes n taken) (0 ∷ []), length-promoted_bytes n taken))

few_zeros : (spent : Bool) (half : Option ℕ) → zeros_given spent (listed half) ≤ 1
few_zeros false half = omega arith
few_zeros true None = omega arith
few_zeros true (Some b) = omega arith

-- ---- the promotion that the source had when the call began, and the one that it has now

none_before : (n : Narrow) {known now : Option (List ℕ)} (old new : Promotion) {start a : List ℕ → Type 0} → Runs n known now old new → Gives start a [] → HasGivenOf old start a []
none_before n {known} {now} old new {start} {a} r begun = (none_given n old new r, rw (r.taken_old, r.half_old) begun)

module _ (n : Narrow) {known now : Option (List ℕ)} (old new : Promotion) (r : Runs n known now old new) {start a b : List ℕ → Type 0} (from : Gives a start []) (begun : Gives start a []) where
  pub only_given : (raw : List ℕ) → Gives (HasGivenOf old start a) (HasGivenOf new start b) raw → Gives (HasGiven old) (HasGiven new) raw
  only_given raw gives = record { goes_on = λ so_far has. (gives.goes_on so_far (has, (none_before n old new r begun).1)).0 }

  -- all that was read was given
  read_given : (raw : List ℕ) → Gives (HasGivenOf old start a) (HasGivenOf new start b) raw → Gives a b (read_so_far new)
  read_given raw gives = Gives-from (read_so_far new) from (gives.goes_on [] (none_before n old new r begun)).1

  pub text_given : (h : Header) (ended : Bool) {out0 out : Option (List ℕ)} → h.ty ≡ I32 → is_over new ended ≡ true → WritesText (compress_answer h) (stream_text h) (Gives (HasGivenOf old start a) (HasGivenOf new start b)) out0 out
      → WritesText (compress_narrow_answer n h) (narrow_text n h) (Gives a b) out0 out
  text_given h ended {out0} {out} int32 over writes =
      let pending = drop new.at new.value in
      let taken = noted new.taken in
      let half = listed new.half in
      let p = promotes n old new r in
      let raw = writes.bytes in
      let is = given_by n old new r h raw (only_given raw writes.given) in
      let long : length raw ≡ raw_len h = length_says (raw_len h) raw (Ok tt) writes.good in
      let none : half ≡ [] = no_half n new.half new.spent pending taken raw (and_parts ended (is_none new.half || new.spent) over).1 p.all is (omega (arith, long, raw_len-int32 h int32)) in
      let all : read_so_far new ≡ taken = ap (λ (bs : List ℕ). taken ++ bs) none ∙ append-nil taken in
      let count : length taken ≡ narrow_len n h = whole_read n h int32 new.spent pending half taken raw p.less p.whole p.few p.all is long in
      record {
        bytes = read_so_far new;
        given = read_given raw writes.given;
        good = good_answer (narrow_len n h) (read_so_far new) (ap length all ∙ count);
        written = rw (all, ← all_given_text n h pending taken (zeros_given new.spent half) raw is (omega (arith, long))) writes.written;
      }

  pub prefix_given : (h : Header) {out0 out : Option (List ℕ)} → WritesPrefix (stream_text h) (Gives (HasGivenOf old start a) (HasGivenOf new start b)) out0 out
      → WritesPrefix (narrow_text n h) (Gives a b) out0 out
  prefix_given h {out0} {out} writes =
      let pending = drop new.at new.value in
      let taken = noted new.taken in
      let half = listed new.half in
      let zeros = zeros_given new.spent half in
      let first = promoted_bytes n taken in
      let p = promotes n old new r in
      let raw = writes.bytes ++ writes.lost in
      let is = given_by n old new r h raw (only_given raw writes.given) in
      record {
        bytes = taken;
        lost = half;
        given = read_given raw writes.given;
        written = λ rest.
            let behind = zero_behind n h first zeros rest (few_zeros new.spent new.half) in
            let more = behind.0 in
            let parts : (first ++ replicate zeros 0) ++ more ≡ writes.bytes ++ (writes.lost ++ (pending ++ more)) =
            ap (λ (bs : List ℕ). bs ++ more) (sym is) ∙ append_assoc raw pending more ∙ append_assoc writes.bytes writes.lost (pending ++ more) in
            let text : narrow_text n h (taken ++ rest) ≡ stream_text h (writes.bytes ++ (writes.lost ++ (pending ++ more))) =
            ap (stream_text h) (promoted_bytes-append n taken rest p.whole) ∙ behind.1 ∙ ap (stream_text h) parts in
            rw text (writes.written (writes.lost ++ (pending ++ more)));
      }
