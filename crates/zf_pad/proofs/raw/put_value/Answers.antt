use Rattle.std.proofs.Common.{suc, refl, ◌≡◌, FitsSigned, All, ◌+◌, ◌*◌, ◌≤◌, ◌<◌, [], ◌∷◌, ◌++◌, length, take, drop, get_or, take-append-drop, sym, ap, ◌∙◌, arith}
use Rattle.std.{proofs.lemmas.List.{append-nil, drop-drop, set_split}, proofs.lemmas.List.Elements.{All-nil, All-cons}}
use Rattle.std.{proofs.Math.Nat.{add-mul}, specs.Int.{w64, byte_len, to_le_bytes, cast_unsigned}}
use borrow.Rule.Slice.PartMut.{put_mid}
use Rattle.zf_spec.specs.Stream.{raw}
use Rattle.zf_pad.{specs.Stored.{values_in}, proofs.RawValues.{raw_within, low_bytes, one_put, values_put}}
use Rattle.zf_pad.proofs.raw.put_value.Goals as goal

pub loop-k-init : goal.loop-k-init
loop-k-init g c =
    let old = c.args.bytes.now in
    let start = c.args.to * c.value_len-len.result in
    sym (take-append-drop start old) ∙ ap (λ n. take start old ++ drop n old) (omega arith)

pub loop-k-preserved : goal.loop-k-preserved
loop-k-preserved g c =
    let w = g.T.Lane.width in
    let old = c.args.bytes.now in
    let to = c.args.to in
    let k = c.loop-k.k in
    let all = c.to_le_bytes-all.result in
    let start = to * c.value_len-len.result in
    let here : start + c.value_len-len.result ≤ length old =
    omega (arith, raw_within w (to + 1) old (omega (arith, c.requires.room)), add-mul to 1 (byte_len w), ap (λ l. to * l) c.value_len-len.ensures.value, c.value_len-len.ensures.value) in
    let room : start + k < length old = omega (arith, here, c.loop-k-test.true) in
    let now_room : start + k < length c.loop-k.bytes = omega (arith, room, c.loop-k.auto.bytes) in
    let more : k < length all = omega (arith, ap length c.to_le_bytes-all.ensures, c.loop-k-test.true, c.value_len-len.ensures.bound) in
    let next : suc (start + k) ≡ start + k + 1 = omega arith in
    set_split c.loop-k.bytes (start + k) _ now_room
    ∙ ap (λ n. take (start + k) c.loop-k.bytes ++ get_or all k 0 ∷ drop n c.loop-k.bytes) next
    ∙ one_put start k old all (get_or all k 0) 0 more room refl c.loop-k.bytes c.loop-k.invariant

pub returns : goal.returns
returns g c =
    let w = g.T.Lane.width in
    let v = g.T.Lane.value c.args.value in
    let old = c.args.bytes.now in
    let to = c.args.to in
    let k = c.loop-k.k in
    let all = c.to_le_bytes-all.result in
    let start = to * byte_len w in
    let fit : All (λ u. FitsSigned w u) (v ∷ []) = All-cons (λ u. FitsSigned w u) v [] ((g.met.T.Lane.in_range_fits v).0 c.to_word.ensures.operand) (All-nil (λ u. FitsSigned w u)) in
    let end : k ≡ byte_len w = omega (arith, c.loop-k-test.false, c.loop-k.auto.k-end, c.value_len-len.ensures.value) in
    let word : all ≡ to_le_bytes w64 c.to_word.result = c.to_le_bytes-all.ensures in
    let put : take k all ≡ raw w (v ∷ []) =
    ap (λ n. take n all) end ∙ ap (take (byte_len w)) word ∙ low_bytes w c.to_word.result g.met.T.Lane.two_widths ∙ ap (to_le_bytes w) c.to_word.ensures.value
    ∙ sym (append-nil (to_le_bytes w (cast_unsigned w v))) in
    let is : c.loop-k.bytes ≡ put_mid start k old (raw w (v ∷ [])) =
    c.loop-k.invariant
    ∙ ap (λ l. take (to * l) old ++ (take k all ++ drop (to * l + k) old)) c.value_len-len.ensures.value
    ∙ ap (λ bs. take start old ++ (bs ++ drop (start + k) old)) put
    ∙ ap (λ bs. take start old ++ (raw w (v ∷ []) ++ bs)) (sym (drop-drop k start old)) in
    ap (values_in w) is ∙ values_put w to 1 old (v ∷ []) fit refl (omega (arith, c.requires.room)) k (omega (arith, end))
