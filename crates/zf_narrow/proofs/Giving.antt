-- What a source that promotes has given, of what it has read.
use Rattle.std.{proofs.lemmas.List.{nil_from_length}, proofs.Common.{length-append}, specs.Int.{byte_len}}
use Rattle.std.proofs.Common.{rules, ◌≡◌, refl, sym, ap, ◌∙◌, ℕ, ◌*◌, ◌%◌, ◌≤◌, ◌<◌, ◌⊎◌, Bool, true, false, IsTrue, List, [], ◌++◌, length, replicate, Option, Some, None, append_assoc, append-nil, mul_comm, arith}
use Rattle.std.proofs.lemmas.List.{append_cancel_right}
use Rattle.zf_spec.specs.Grid.{product}
use Rattle.zf_base.specs.Widths.{width_of}
use Rattle.zf_header.specs.declared.header.Header.{Header}
use Rattle.zf_dev.specs.Source.{IsAtEnd}
use Rattle.zf_parse.specs.Raw.{raw_len, stream_text}
use Rattle.zf_narrow.{specs.Values.{size_of}, specs.Texts.{narrow_text}, specs.Promoting.{coming, exposed_by}}
use Rattle.zf_narrow.{specs.declared.narrow.Narrow.{Narrow}, specs.RawNarrow.{promoted_bytes, promoted_all}}
use Rattle.zf_narrow.proofs.Whole.{promoted_bytes-append, promoted_bytes-few, promoted_all-append, no_bytes}
use Rattle.zf_stream.proofs.LookedAt.{stream_text-zeros, stream_text-more}

-- less than a value has no int32 bytes
pub promoted_bytes-half : (n : Narrow) (taken half : List ℕ) → length taken % size_of n ≡ 0 → length half < size_of n → promoted_bytes n (taken ++ half) ≡ promoted_bytes n taken
promoted_bytes-half n taken half whole less = cc (promoted_bytes-append n taken half whole, promoted_bytes-few n half less, append-nil (promoted_bytes n taken))

-- of the int32 bytes of what was read these were given: all but those of a part of the last value, or all and a zero byte for half a value
pub record Gave (n : Narrow) (bytes raw : List ℕ) : Type 0 where
  pub pending : List ℕ
  pub zeros : ℕ
  pub parts : raw ++ pending ≡ promoted_bytes n bytes ++ replicate zeros 0
  pub few : length pending ≤ 3
  pub one_of_both : (zeros ≡ 0) ⊎ (pending ≡ [])
  pub half : zeros ≤ length bytes % size_of n

-- what was given is what was to come before and does not come any more
pub gave : (n : Narrow) (spent : Bool) (pending half taken input left raw : List ℕ) → input ≡ (taken ++ half) ++ left → promoted_all n input ≡ raw ++ (pending ++ coming n spent half left)
    → length taken % size_of n ≡ 0 → length half < size_of n → length pending ≤ 3 → (IsTrue spent → pending ≡ []) → (IsTrue spent → left ≡ []) → Gave n (taken ++ half) raw
gave n false pending half taken input left raw read given whole less few all end =
    let behind = promoted_all n (half ++ left) in
    let before : promoted_all n input ≡ promoted_bytes n taken ++ behind = cc (append_assoc taken half left, promoted_all-append n taken (half ++ left) whole) in
    let same = append_cancel_right (raw ++ pending) (promoted_bytes n taken) behind (cc (append_assoc raw pending behind)) in
    let none = promoted_bytes-half n taken half whole less in search (rules, append-nil)
gave n true pending half taken input left raw read given whole less few all end = search (rules, append-nil)

-- nothing is to come of the source where no int32 byte is
pub source_ended : (n : Narrow) (spent : Bool) (pending half : List ℕ) (now : Option (List ℕ)) → IsAtEnd (exposed_by n spent pending half now) → (IsTrue spent → IsAtEnd now) → IsAtEnd now
source_ended n spent pending half None end spent_end = tt
source_ended n true pending half (Some left) end spent_end = spent_end refl
source_ended n false pending half (Some left) end spent_end = behind half left (no_bytes n (half ++ left) (behind pending (promoted_all n (half ++ left)) end))
  where
    behind : (xs ys : List ℕ) → xs ++ ys ≡ [] → ys ≡ []
    behind xs ys none = nil_from_length ys (omega (arith, length-append xs ys, ap length none))

-- ---- the stream of what was given

module _ (n : Narrow) (h : Header) (pending taken : List ℕ) (zeros : ℕ) where
  -- these bytes were given of what was read, and others are pending
  abbrev pub IsGiven : List ℕ → Type 0
  IsGiven raw = raw ++ pending ≡ promoted_bytes n taken ++ replicate zeros 0

  -- with what was lost and what is pending they make the stream of all
  pub part_given_text : (raw lost : List ℕ) → IsGiven (raw ++ lost) → stream_text h (raw ++ (lost ++ pending)) ≡ narrow_text n h taken
  part_given_text raw lost given = cc (append_assoc raw lost pending, stream_text-zeros h (promoted_bytes n taken) zeros)

  -- where as many were given as the array has, they do so alone
  pub all_given_text : (raw : List ℕ) → IsGiven raw → raw_len h ≤ length raw → stream_text h raw ≡ narrow_text n h taken
  all_given_text raw given enough =
      let within : product h.shape * byte_len (width_of h.ty) ≤ length raw = omega (arith, enough, mul_comm (byte_len (width_of h.ty)) (product h.shape)) in
      sym (stream_text-more h raw pending within) ∙ ap (stream_text h) given ∙ stream_text-zeros h (promoted_bytes n taken) zeros
