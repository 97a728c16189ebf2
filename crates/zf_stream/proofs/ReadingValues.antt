-- Values that are read piece by piece: some were read, and then the next ones, or fewer bytes than these have.
use Rattle.std.proofs.Common.{rules, ◌≡◌, ℕ, ◌+◌, ◌*◌, ◌≤◌, ℤ, List, ◌++◌, map, length, take, Option, length-append, arith}
use Rattle.std.{proofs.lemmas.List.{map-append}, proofs.lemmas.Slice.{take-put_mid}}
use Rattle.std.{proofs.Math.Nat.{add-mul}, specs.Int.{Width, byte_len}}
use borrow.Rule.Slice.PartMut.{put_mid}
use Rattle.zf_spec.specs.Stream.{values_from}
use Rattle.zf_dev.{specs.Source.{Takes, Gives}, proofs.Taking.{Takes-append}, proofs.Giving.{Gives-append}}
use Rattle.zf_parse.specs.declared.fault.StreamFault.{StreamFault}
use Rattle.zf_parse.specs.declared.fault.StreamFault.TheVariants as faults
use Rattle.zf_stream.{specs.ReadRaw.{ReadsValues, LacksRaw}, proofs.RawValues.{values_from-append}}

-- the values of the next bytes were put behind those that were read
pub reads_more : {X : Type 0} (w : Width) (value : X → ℤ) (at n k : ℕ) (xs ys : List X) (old mid new : Option (List ℕ)) {a b c : List ℕ → Type 0} (more : List ℕ)
    → at ≤ length xs → length ys ≡ n → length more ≡ n * byte_len w → map value ys ≡ values_from w n more
    → ReadsValues w at old mid (Gives a b) (map value (take at xs)) → Takes mid new more → Gives b c more
    → ReadsValues w (at + n) old new (Gives a c) (map value (take (at + n) (put_mid at k xs ys)))
reads_more w value at n k xs ys old mid new {a} {b} {c} more within count long are done taken given = record {
  bytes = done.bytes ++ more;
  taken = Takes-append old mid new done.bytes more done.taken taken;
  given = Gives-append done.bytes more done.given given;
  long = omega (arith, length-append done.bytes more, done.long, long, add-mul at n (byte_len w));
  are = search (rules, take-put_mid, map-append, values_from-append);
}

-- some bytes were read, and behind them fewer than are wanted there
pub lacks_behind : (before at part wanted : ℕ) (old mid new : Option (List ℕ)) (bytes : List ℕ) (e : StreamFault)
    → Takes old mid bytes → length bytes ≡ at → at + part ≤ wanted → LacksRaw (before + at) part mid new e → LacksRaw before wanted old new e
lacks_behind before at part wanted old mid new bytes (faults.RawShort n) taken long within lacks = record {
  bytes = bytes ++ lacks.bytes;
  taken = Takes-append old mid new bytes lacks.bytes taken lacks.taken;
  ended = lacks.ended;
  few = omega (arith, length-append bytes lacks.bytes, lacks.few);
  count_is = omega (arith, length-append bytes lacks.bytes, lacks.count_is);
}
lacks_behind before at part wanted old mid new bytes faults.Read taken long within lacks = (bytes ++ lacks.0, Takes-append old mid new bytes lacks.0 taken lacks.1)
lacks_behind before at part wanted old mid new bytes e taken long within lacks = absurd lacks
