-- How a restoration of narrow values ends, from how that of their int32 bytes does.
use Rattle.std.proofs.Common.{rules, ◌≡◌, ◌≢◌, refl, sym, ap, subst, ◌∙◌, ℕ, ◌*◌, ◌%◌, ◌≤◌, inl, inr, ⊎_elim, Bool, true, false, List, [], ◌++◌, length, take, drop, Option, Some, None, Result, Ok, Err, append_assoc, append-nil, length-append, take-append-drop, arith}
use Rattle.std.{specs.Prelude.{IsErrAnd}, proofs.lemmas.List.{nil_from_length, length-take}}
use Rattle.std.{specs.Int.{byte_len}, proofs.lemmas.Option.{same_Some}}
use Rattle.zf_base.{specs.Widths.{width_of}, specs.declared.lane.Ty.{Ty}}
use Rattle.zf_base.specs.declared.lane.Ty.TheVariants.{I32, I64}
use Rattle.zf_header.{specs.declared.header.HeaderFault.{HeaderFault}, specs.HeaderFaults.{header_fault}}
use Rattle.zf_dev.specs.Logs.{noted}
use Rattle.zf_dev.specs.Sink.{Appends, AppendsPrefix}
use Rattle.zf_dev.proofs.Appending.{AppendsPrefix-all, AppendsPrefix-more}
use Rattle.zf_parse.{specs.declared.fault.StreamFault.{StreamFault}, proofs.Steps.{header_or, blocks_text}}
use Rattle.zf_parse.specs.Parsing.{header_of, restore_answer, restored_text}
use Rattle.zf_parse.proofs.Enough.{length-restored_text}
use Rattle.zf_parse.specs.declared.fault.StreamFault.TheVariants as faults
use Rattle.zf_stream.{specs.Outcomes.{Answers, LeavesPrefix}}
use Rattle.zf_stream.specs.Typed.{answer_of_types, typed_answer, CanRefuseTyped, RestoresTyped, HasOtherType, RestoredWhere, RestoredWhereGiven}
use Rattle.zf_stream.specs.Outcomes as outcomes
use Rattle.zf_stream.proofs.GoodText.{good_text}
use Rattle.zf_narrow.{specs.declared.narrow.Narrow.{Narrow}, specs.declared.fault.NarrowFault.{NarrowFault}}
use Rattle.zf_narrow.specs.declared.fault.NarrowFault.TheVariants.{NotNarrow, Stream}
use Rattle.zf_narrow.{specs.declared.demotion.Demotion.{Demotion}, specs.RawNarrow.{demoted_bytes}}
use Rattle.zf_narrow.{specs.Promoting.{listed}, proofs.Whole.{demoted_bytes-append}}
use Rattle.zf_narrow.specs.Texts.{answer_behind, restore_narrow_answer, IsFromOutside, AnswersNarrow, CanRefuseNarrow, RestoresNarrow, LeavesNarrowPrefix, RestoredNarrow, RestoredNarrowGiven}

-- ---- answers

-- the answer of a restoration of int32 values as one of narrow values
abbrev narrow_of : Result Bool StreamFault → Result (Unit {0}) NarrowFault
narrow_of (Ok true) = Ok tt
narrow_of (Ok false) = Err NotNarrow
narrow_of (Err e) = Err (Stream e)

-- both say the same of an input
same_answer : (fault : Option HeaderFault) (ty : Ty) (answer : Result (Unit {0}) StreamFault) → narrow_of (header_or fault (answer_of_types I32 ty answer)) ≡ answer_behind fault ty answer
same_answer fault ty answer = search rules

answer_is : (input : List ℕ) → narrow_of (typed_answer I32 input) ≡ restore_narrow_answer input
answer_is input = same_answer (header_fault input) (header_of input).ty (restore_answer input)

outside_still : (r : Result Bool StreamFault) → IsErrAnd r outcomes.IsFromOutside → IsErrAnd (narrow_of r) IsFromOutside
outside_still (Ok b) is = absurd is
outside_still (Err e) is = is

narrow_answers : (known : Option (List ℕ)) (r : Result Bool StreamFault) → Answers r known (typed_answer I32) → AnswersNarrow (narrow_of r) known
narrow_answers None r answers = tt
narrow_answers (Some input) r answers = ⊎_elim (λ is. inl (ap narrow_of is ∙ answer_is input)) (λ out. inr (outside_still r out)) answers

-- ---- refusals

fault_possible : (e : StreamFault) → CanRefuseTyped I32 e → CanRefuseNarrow (Stream e)
fault_possible e can = ⊎_elim (λ is. inl (is.0, sym (answer_is is.0) ∙ ap narrow_of is.1)) (λ out. inr out) can

write_answers : (known : Option (List ℕ)) → AnswersNarrow (Err (Stream faults.Write)) known
write_answers None = tt
write_answers (Some input) = inr (inr (inl refl))

-- the answer on a good header of another type
wide_answer : (fault : Option HeaderFault) (ty : Ty) (answer : Result (Unit {0}) StreamFault) → fault ≡ None → ty ≢ I32 → answer_behind fault ty answer ≡ Err NotNarrow
wide_answer (Some f) ty answer good other = absurd (cc)
wide_answer None I32 answer good other = absurd (other refl)
wide_answer None I64 answer good other = refl

-- ---- what was written

prefix_empty : (xs ys : List ℕ) → xs ++ ys ≡ [] → xs ≡ []
prefix_empty xs ys none = nil_from_length xs (omega (arith, length-append xs ys, ap length none))

-- the text is whole values
whole_bytes : (ty : Ty) (count : ℕ) → (byte_len (width_of ty) * count) % 4 ≡ 0
whole_bytes ty count = grind arith

no_text : (bytes : List ℕ) (f : HeaderFault) → header_fault bytes ≡ Some f → restored_text bytes ≡ []
unfolding restored_text
no_text bytes f fault = search (rules, blocks_text)

whole_text : (bytes : List ℕ) → length (restored_text bytes) % 4 ≡ 0
whole_text bytes = search (rules, length-restored_text, whole_bytes, no_text)

-- a demotion that began with nothing taken, once some int32 bytes were taken
pub record Demotes (n : Narrow) (start now : Option (List ℕ)) (given owed taken part : List ℕ) : Type 0 where
  pub whole : length taken % 4 ≡ 0
  pub few : length part ≤ 3
  pub made : given ++ owed ≡ demoted_bytes n taken
  pub written : Appends start now given

pub demotes : (n m : Narrow) (first start now : Option (List ℕ)) (d : Demotion) → d.narrow ≡ m → m ≡ n → first ≡ start → Appends first now (noted d.given)
    → Demotes n start now (noted d.given) (listed d.owed) (noted d.taken) (take d.held d.value)
demotes n m first start now d same narrow begins written = search (rules, length-take)

-- a good stream of int32 is a good one
good_of_typed : (bytes : List ℕ) → typed_answer I32 bytes ≡ Ok true → restore_answer bytes ≡ Ok tt
good_of_typed bytes good = by (header_fault bytes) (header_of bytes).ty (restore_answer bytes) good
  where
    by : (fault : Option HeaderFault) (ty : Ty) (answer : Result (Unit {0}) StreamFault) → header_or fault (answer_of_types I32 ty answer) ≡ Ok true → answer ≡ Ok tt
    by (Some f) ty answer is = absurd (cc)
    by None I32 (Ok u) is = refl
    by None I32 (Err e) is = absurd (cc)
    by None I64 answer is = absurd (cc)

-- the same restoration, told of the same result and bytes by other names
pub given_as : (gives : List ℕ → Type 0) {r q : Result Bool StreamFault} {xs ys zs ws : List ℕ} → r ≡ q → xs ≡ ys → zs ≡ ws → RestoredWhereGiven I32 r gives (Some xs) (Some zs) → RestoredWhereGiven I32 q gives (Some ys) (Some ws)
given_as gives e f g = subst (λ (t : Result Bool StreamFault × List ℕ × List ℕ). RestoredWhereGiven I32 t.0 gives (Some t.1) (Some t.2)) (λ i. (e i, f i, g i))

pub restored_as : (src now : Option (List ℕ)) {r q : Result Bool StreamFault} {xs ys zs ws : List ℕ} → r ≡ q → xs ≡ ys → zs ≡ ws → RestoredWhere I32 r src now (Some xs) (Some zs) → RestoredWhere I32 q src now (Some ys) (Some ws)
restored_as src now e f g = subst (λ (t : Result Bool StreamFault × List ℕ × List ℕ). RestoredWhere I32 t.0 src now (Some t.1) (Some t.2)) (λ i. (e i, f i, g i))

module _ (n : Narrow) {start now : Option (List ℕ)} {given owed taken part : List ℕ} (d : Demotes n start now given owed taken part) where
  -- of a prefix of the text a prefix was written
  prefix_written : (text : List ℕ) → AppendsPrefix (Some []) (Some (taken ++ part)) text → AppendsPrefix start now (demoted_bytes n text)
  prefix_written text prefix =
      let rest = part ++ drop prefix.0 text in
      let text_is : text ≡ taken ++ rest = cc (take-append-drop prefix.0 text, prefix.2, append_assoc taken part (drop prefix.0 text)) in
      let is : given ++ (owed ++ demoted_bytes n rest) ≡ demoted_bytes n text = cc (append_assoc given owed (demoted_bytes n rest), d.made, demoted_bytes-append n taken rest d.whole) in
      rw is at (AppendsPrefix-more start now given (owed ++ demoted_bytes n rest) (AppendsPrefix-all start now given d.written))

  -- of all of it all, where no byte is owed
  all_written : (text : List ℕ) → owed ≡ [] → taken ++ part ≡ text → length text % 4 ≡ 0 → Appends start now (demoted_bytes n text)
  all_written text none all whole = search (rules, length-append, nil_from_length, append-nil)

  -- of nothing nothing
  nothing_written : taken ++ part ≡ [] → Appends start now []
  nothing_written none = search (rules, prefix_empty)

  restores : {src0 src1 : Option (List ℕ)} → owed ≡ [] → RestoresTyped I32 src0 src1 (Some []) (Some (taken ++ part)) → RestoresNarrow n src0 src1 start now
  restores {src0} {src1} none fin = search (rules, answer_is, all_written, whole_text)

  -- the last byte that is owed was not written
  restores_but_one : {src0 src1 : Option (List ℕ)} → RestoresTyped I32 src0 src1 (Some []) (Some (taken ++ part)) → LeavesNarrowPrefix n src0 src1 start now
  restores_but_one {src0} {src1} fin = search (rules, prefix_written, AppendsPrefix-all)

  leaves : {src0 src1 : Option (List ℕ)} → LeavesPrefix restored_text src0 src1 (Some []) (Some (taken ++ part)) → LeavesNarrowPrefix n src0 src1 start now
  leaves {src0} {src1} left = search (rules, prefix_written)

  leaves_other : {src0 src1 : Option (List ℕ)} → HasOtherType I32 src0 src1 (Some []) (Some (taken ++ part)) → LeavesNarrowPrefix n src0 src1 start now
  leaves_other {src0} {src1} other = search (rules, nothing_written, same_Some)

  module _ {src0 src1 : Option (List ℕ)} where
    -- all of it was restored, and no byte is owed
    pub ends_good : owed ≡ [] → RestoredWhere I32 (Ok true) src0 src1 (Some []) (Some (taken ++ part)) → RestoredNarrow n (Ok tt) src0 src1 start now
    ends_good none done = search (rules, narrow_answers, restores)

    -- the byte that is owed was not written
    pub ends_unsettled : RestoredWhere I32 (Ok true) src0 src1 (Some []) (Some (taken ++ part)) → RestoredNarrow n (Err (Stream faults.Write)) src0 src1 start now
    ends_unsettled done = search (rules, write_answers, restores_but_one)

    -- its values are of the other type
    pub ends_other : RestoredWhere I32 (Ok false) src0 src1 (Some []) (Some (taken ++ part)) → RestoredNarrow n (Err NotNarrow) src0 src1 start now
    ends_other done = search (rules, narrow_answers, wide_answer, leaves_other, nothing_written)

    -- it was refused
    pub ends_refused : (e : StreamFault) → RestoredWhere I32 (Err e) src0 src1 (Some []) (Some (taken ++ part)) → RestoredNarrow n (Err (Stream e)) src0 src1 start now
    ends_refused e done = search (rules, narrow_answers, fault_possible, leaves, nothing_written)

  -- ---- of what the source says that it gave

  module _ {gives : List ℕ → Type 0} where
    -- all of it was restored, and no byte is owed
    pub given_good : owed ≡ [] → RestoredWhereGiven I32 (Ok true) gives (Some []) (Some (taken ++ part)) → RestoredNarrowGiven n (Ok tt) gives start now
    given_good none done =
        let w = done.ok in
        record {
          ok = record { bytes = w.bytes; given = w.given; good = sym (answer_is w.bytes) ∙ ap narrow_of w.good; written = all_written (restored_text w.bytes) none w.written (whole_text w.bytes) };
          refused = tt;
          err = tt;
        }

    -- the byte that is owed was not written
    pub given_unsettled : RestoredWhereGiven I32 (Ok true) gives (Some []) (Some (taken ++ part)) → RestoredNarrowGiven n (Err (Stream faults.Write)) gives start now
    given_unsettled done =
        let w = done.ok in
        let text = restored_text w.bytes in
        let prefix = prefix_written text (AppendsPrefix-all (Some []) (Some (taken ++ part)) text w.written) in
        record {
          ok = tt;
          refused = inr (inr (inl refl));
          err = record { bytes = w.bytes; lost = []; given = rw (append-nil w.bytes) w.given; written = λ rest. rw (good_text w.bytes rest (good_of_typed w.bytes w.good)) prefix };
        }

    -- its values are of the other type
    pub given_other : RestoredWhereGiven I32 (Ok false) gives (Some []) (Some (taken ++ part)) → RestoredNarrowGiven n (Err NotNarrow) gives start now
    given_other done =
        let w = done.ok in
        let none = nothing_written (same_Some (taken ++ part) [] w.unwritten) in
        record {
          ok = tt;
          refused = inl (w.bytes, (w.given, sym (answer_is w.bytes) ∙ ap narrow_of w.other));
          err = record { bytes = []; lost = w.bytes; given = w.given; written = λ rest. (0, omega arith, none) };
        }

    -- it was refused
    pub given_refused : (e : StreamFault) → RestoredWhereGiven I32 (Err e) gives (Some []) (Some (taken ++ part)) → RestoredNarrowGiven n (Err (Stream e)) gives start now
    given_refused e done =
        let w = done.err in
        record {
          ok = tt;
          refused = ⊎_elim (λ is. inl (is.0, (is.1.0, sym (answer_is is.0) ∙ ap narrow_of is.1.1))) (λ out. inr out) done.refused;
          err = record { bytes = w.bytes; lost = w.lost; given = w.given; written = λ rest. prefix_written (restored_text (w.bytes ++ rest)) (w.written rest) };
        }
