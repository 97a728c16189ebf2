use Rattle.std.proofs.Common.{◌≡◌, refl, ◌∙◌, ◌+◌, ◌*◌, min, length, length-set, arith, rules}
use Rattle.std.specs.Int.{div_ceil}
use Rattle.zf_spec.{specs.Numbers.{word_bits}, proofs.WordBits.{length-word_bits}}
use Rattle.zf_store.proofs.Runs.{IsMoved-more}
use Rattle.zf_store.proofs.words.move_to_front.Goals as goal

pub loop-i-init : goal.loop-i-init
loop-i-init c = let none : 0 ≡ min (64 * 0) c.args.len = omega arith in search rules

pub loop-i-preserved : goal.loop-i-preserved
loop-i-preserved c =
    let i = c.loop-i.i in
    let n = c.min-n.result in
    let words = c.loop-i.words in
    let before : min (64 * i) c.args.len ≡ 64 * i = omega (arith, c.loop-i-test.true, c.div_ceil-i-end.ensures) in
    let next : min (64 * (i + 1)) c.args.len ≡ 64 * i + n = omega (arith, c.min-n.ensures, c.loop-i-test.true, c.div_ceil-i-end.ensures) in
    let count : length words ≡ length c.args.words.now = c.loop-i.invariant.count in
    let long = length-word_bits c.args.words.now in
    let now_long = length-word_bits words in
    record {
      moved = IsMoved-more (word_bits c.args.words.now) c.args.at i n _ _ (i + 1) c.get_bits.result words (rw before at c.loop-i.invariant.moved) (omega (arith, c.requires.within, next)) c.requires.behind (omega (arith, c.min-n.ensures))
          (omega (arith, c.requires.within, next)) refl next (omega arith) c.get_bits.ensures refl;
      count = length-set words i c.get_bits.result ∙ count;
    }

pub returns : goal.returns
returns c =
    let all : min (64 * c.loop-i.i) c.args.len ≡ c.args.len = omega (arith, c.loop-i-test.false, c.div_ceil-i-end.ensures) in
    let count : c.loop-i.i ≡ div_ceil c.args.len 64 = omega (arith, c.loop-i-test.false, c.div_ceil-i-end.ensures, c.loop-i.auto.i-end) in search rules
