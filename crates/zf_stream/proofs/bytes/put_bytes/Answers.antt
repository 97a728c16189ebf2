use Rattle.std.proofs.Common.{rules, ◌≡◌, ℕ, ◌+◌, ◌*◌, ◌<◌, ◌≤◌, List, [], ◌∷◌, length, take, get_or, ap, arith}
use Rattle.std.{proofs.lemmas.List.{append-nil, take_more}, proofs.lemmas.Slice.{take-put_mid}}
use Rattle.std.{proofs.lemmas.Grind.{flat_map-append, common_steps}, specs.Int.{w64, to_le_bytes}}
use borrow.Rule.Slice.PartMut.{put_mid}
use Rattle.zf_stream.specs.Flows.{bytes_in}
use Rattle.zf_stream.proofs.bytes.put_bytes.Goals as goal

-- one word more
bytes_more : (words buf put : List ℕ) (i k : ℕ) → i < length words → put ≡ to_le_bytes w64 (get_or words i 0) → 8 * i ≤ length buf → take (8 * i) buf ≡ bytes_in (take i words)
    → take (8 * (i + 1)) (put_mid (8 * i) k buf put) ≡ bytes_in (take (i + 1) words)
bytes_more words buf put i k more is within so_far =
    let bytes = to_le_bytes w64 (get_or words i 0) in
    let long : length put ≡ 8 = ap length is in
    let front = take-put_mid (8 * i) k buf put (8 * (i + 1)) (omega (arith, long)) within in
    let joined = flat_map-append (to_le_bytes w64) (take i words) (get_or words i 0 ∷ []) in
    let more = take_more words i 0 more in
    let end = append-nil bytes in
    cc

pub loop-i-preserved : goal.loop-i-preserved
loop-i-preserved c = search (rules, bytes_more)

pub returns : goal.returns
returns c = grind (arith, common_steps)
