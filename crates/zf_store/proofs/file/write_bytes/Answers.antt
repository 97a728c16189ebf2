use Rattle.std.proofs.Common.{◌≡◌, ◌+◌, ◌++◌, length, take, length-append, arith, rules, List, ℕ, ◌≤◌, ◌*◌}
use Rattle.std.proofs.lemmas.List.{length-take-le}
use Rattle.zf_spec.{specs.Numbers.{word_bits}, proofs.WordBits.{length-word_bits}}
use Rattle.zf_store.proofs.Joined.{bytes_more, bytes_all}
use Rattle.zf_store.proofs.file.write_bytes.Goals as goal

-- two runs end to end
long : (p q : List ℕ) (m n : ℕ) → m ≤ 64 * length p → n ≤ 64 * length q → length (take m (word_bits p) ++ take n (word_bits q)) ≡ m + n
long p q m n first second =
    omega (arith, length-append (take m (word_bits p)) (take n (word_bits q)), length-take-le m (word_bits p) (omega (arith, length-word_bits p)), length-take-le n (word_bits q) (omega (arith, length-word_bits q)))

pub loop-i-preserved : goal.loop-i-preserved
loop-i-preserved c =
    let both = long c.args.prefix.now c.args.words.now c.args.prefix_len c.args.len (omega arith) (omega arith) in search (rules, bytes_more)

pub returns : goal.returns
returns c =
    let both = long c.args.prefix.now c.args.words.now c.args.prefix_len c.args.len (omega arith) (omega arith) in search (rules, bytes_all)
