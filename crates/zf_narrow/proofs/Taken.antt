-- What is read of a source, one piece behind another.
use Rattle.std.proofs.Common.{rules, ◌≡◌, ℕ, ◌+◌, ◌≤◌, ◌%◌, List, ◌++◌, length, take, Option, Result, Ok, Err, append_assoc}
use Rattle.std.{specs.Prelude.{IfOk}, proofs.lemmas.List.{length-take-le, take-append-le}}
use Rattle.std.proofs.Math.Seq.{take-append-add}
use Rattle.zf_dev.{specs.Source.{Takes, Gives}, proofs.Taking.{Takes-append}, proofs.Giving.{Gives-append}}
use Rattle.zf_narrow.{specs.declared.narrow.Narrow.{Narrow}, specs.Values.{size_of}}
use Rattle.zf_narrow.specs.Promoting.{TakesValues, ReadsBehind}

-- what was read into the room behind the first bytes
pub read_there : {E : Type 0} (r : Result ℕ E) (before now : Option (List ℕ)) (gives : List ℕ → Type 0) (piece buf past : List ℕ) (at : ℕ) → at ≤ length piece → IfOk r (λ k. k ≤ length buf) → IfOk r (λ k. Takes before now (take k buf))
    → IfOk r (λ k. gives (take k buf)) → IfOk r (λ k. ReadsBehind before now gives (take at piece) (take (at + k) (take at piece ++ (buf ++ past))) k)
read_there (Err e) before now gives piece buf past at within bound taken given = tt
read_there (Ok k) before now gives piece buf past at within bound taken given = search (rules, length-take-le, take-append-add, take-append-le)

-- two pieces, of which the first ends within a value
pub two_pieces : (n : Narrow) {before mid now : Option (List ℕ)} {a b c : List ℕ → Type 0} {half first one all values half_now : List ℕ} {count more : ℕ} → ReadsBehind before mid (Gives a b) half first count → first ≡ one → ReadsBehind mid now (Gives b c) one all more
    → all ≡ values ++ half_now → length values % size_of n ≡ 0 → TakesValues n before now (Gives a c) half half_now values
two_pieces n {before} {mid} {now} {a} {b} {c} {half} {first} {one} {all} {values} {half_now} x same y parts whole =
    let bytes = append_assoc half x.bytes y.bytes in
    record {
      bytes = x.bytes ++ y.bytes;
      taken = Takes-append before mid now x.bytes y.bytes x.taken y.taken;
      given = Gives-append x.bytes y.bytes x.given y.given;
      parts = cc (bytes, x.all_are, same, y.all_are, parts);
      whole = whole;
    }
