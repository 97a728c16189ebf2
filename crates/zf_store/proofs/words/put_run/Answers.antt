use Rattle.std.proofs.Common.{◌≡◌, ◌∙◌, ◌+◌, ◌*◌, min, arith, rules}
use Rattle.zf_spec.{specs.Numbers.{word_bits}, proofs.WordBits.{length-word_bits}}
use Rattle.zf_store.proofs.Runs.{with_run-none, with_run-more, bits_of_word}
use Rattle.zf_store.proofs.words.put_run.Goals as goal

pub loop-i-init : goal.loop-i-init
loop-i-init c = let none : min (64 * 0) c.args.len ≡ 0 = omega arith in search (rules, with_run-none)

pub loop-i-preserved : goal.loop-i-preserved
loop-i-preserved c =
    let i = c.loop-i.i in
    let n = c.min-n.result in
    let old = word_bits c.args.words.now in
    let code = word_bits c.args.code.now in
    let m = min (64 * i) c.args.len in
    let size_old = length-word_bits c.args.words.now in
    let size_code = length-word_bits c.args.code.now in
    let before : 64 * i ≡ m = omega (arith, c.loop-i-test.true, c.div_ceil-i-end.ensures) in
    let next : min (64 * (i + 1)) c.args.len ≡ m + n = omega (arith, c.min-n.ensures, c.loop-i-test.true, c.div_ceil-i-end.ensures) in
    let bits = rw before at (bits_of_word c.args.code.now i n (omega (arith, c.loop-i-test.true, c.div_ceil-i-end.ensures, c.requires.code)) (omega (arith, c.min-n.ensures))) in
    let put = rw before at c.put_bits.ensures.bits in
    record {
      bits = with_run-more old c.args.at code m n _ (word_bits c.loop-i.words) (word_bits c.put_bits.new.words) _ (omega (arith, size_old, next, c.requires.within)) (omega (arith, size_code, next, c.requires.code)) next c.loop-i.invariant.bits bits put;
      count = c.put_bits.ensures.len ∙ c.loop-i.invariant.count;
    }

pub returns : goal.returns
returns c = let all : min (64 * c.loop-i.i) c.args.len ≡ c.args.len = omega (arith, c.loop-i-test.false, c.div_ceil-i-end.ensures) in search rules
