use Rattle.std.proofs.Common.{rules, ◌≡◌, FitsSigned, All, ℕ, ◌+◌, ◌*◌, ◌<◌, ◌≤◌, ◌⊎◌, ℤ, List, [], ◌∷◌, ◌++◌, map, length, take, get_or, sym, ap, ◌∙◌, arith}
use Rattle.std.{proofs.lemmas.Grind.{common_steps}, proofs.lemmas.List.{append-nil, map-append, take_more}}
use Rattle.std.{proofs.lemmas.Slice.{take-put_mid}, proofs.Math.Nat.{add-mul, mul-le-mul_right}}
use Rattle.std.specs.Int.{Width, w32, w64, byte_len, to_le_bytes, cast_unsigned}
use Rattle.std.proofs.lemmas.List.Elements.{All-nil, All-cons, All-append}
use borrow.Rule.Slice.PartMut.{put_mid}
use Rattle.zf_spec.{specs.Stream.{raw}, proofs.Bytes.{length-to_le_bytes}}
use Rattle.zf_pad.proofs.RawValues.{raw-append, low_bytes}
use Rattle.zf_pad.proofs.raw.put_raw.Goals as goal

-- one value more
raw_more : {X : Type 0} (w : Width) (value : X → ℤ) (values : List X) (i n k word : ℕ) (x : X) (buf put : List ℕ) → (w ≡ w32) ⊎ (w ≡ w64) → n ≡ byte_len w → i < length values → x ≡ get_or values i x → word ≡ cast_unsigned w (value x)
    → put ≡ take n (to_le_bytes w64 word) → i * n ≤ length buf → take (i * byte_len w) buf ≡ raw w (map value (take i values))
    → take ((i + 1) * byte_len w) (put_mid (i * n) k buf put) ≡ raw w (map value (take (i + 1) values))
raw_more w value values i n k word x buf put two count more here number is within so_far =
    let bytes = to_le_bytes w (cast_unsigned w (value x)) in
    let same : put ≡ bytes = is ∙ ap (λ m. take m (to_le_bytes w64 word)) count ∙ low_bytes w word two ∙ ap (to_le_bytes w) number in
    let long : length put ≡ byte_len w = ap length same ∙ length-to_le_bytes w (cast_unsigned w (value x)) in
    let end : (i + 1) * byte_len w ≡ i * n + length put = omega (arith, long, add-mul i 1 (byte_len w), ap (λ m. i * m) count) in
    let next : take (i + 1) values ≡ take i values ++ x ∷ [] = take_more values i x more ∙ ap (λ v. take i values ++ v ∷ []) (sym here) in search (rules, take-put_mid, append-nil, raw-append, map-append)

-- and it is a value of the type
types_more : {X : Type 0} (P : ℤ → Type 0) (value : X → ℤ) (values : List X) (i : ℕ) (x : X) → i < length values → x ≡ get_or values i x → P (value x) → All P (map value (take i values)) → All P (map value (take (i + 1) values))
types_more P value values i x more here fits so_far =
    let next : take (i + 1) values ≡ take i values ++ x ∷ [] = take_more values i x more ∙ ap (λ v. take i values ++ v ∷ []) (sym here) in
    rw (next, map-append) (All-append P (map value (take i values)) (value x ∷ []) so_far (All-cons P (value x) [] fits (All-nil P)))

pub loop-i-preserved : goal.loop-i-preserved
loop-i-preserved g c = record {
  bytes = let so_far = c.loop-i.invariant.bytes in search (rules, mul-le-mul_right, raw_more);
  in_type = types_more (λ v. FitsSigned g.T.Lane.width v) g.T.Lane.value _ c.loop-i.i _ (search rules) (search rules) ((g.met.T.Lane.in_range_fits _).0 c.to_word.ensures.operand) c.loop-i.invariant.in_type;
}

pub returns-clause-bytes : goal.returns-clause-bytes
returns-clause-bytes g c = let all = c.loop-i.invariant.bytes in grind (arith, common_steps)
