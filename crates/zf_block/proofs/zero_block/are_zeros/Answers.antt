use Rattle.std.proofs.Common.{◌≤◌, false, drop, length, replicate, le-leb, leb-true, arith}
use Rattle.std.proofs.lemmas.List.{length-replicate, take-append-le, take_all}
use Rattle.zf_bits.specs.Reader.{rest}
use Rattle.zf_planes.proofs.Peeking.{zeros_ahead}
use Rattle.zf_block.proofs.Zeros.{zeros_below}
use Rattle.zf_block.proofs.zero_block.are_zeros.Goals as goal

pub returns-then-from-left : goal.returns-then-from-left
returns-then-from-left c =
    let s = rest c.args.reader.now in
    let k = c.args.count in
    let v = c.args.word in
    let long = length-replicate k false in
    let there : k ≤ length s = omega (arith, c.from.ensures, c.left.ensures.count, c.if-from-left.true) in
    let seen = c.requires.next k c.requires.in_word there in (
      λ low.
          let zeros = zeros_ahead s v k k seen (omega arith) (leb-true k _ low) (omega arith) in
          let cut = take-append-le k (replicate k false) (drop k s) (omega arith) in
          (there, cc (zeros, cut, take_all k (replicate k false) (omega arith))),
      λ next. le-leb k _ (zeros_below s v k seen (omega arith) c.requires.in_word next.1),
    )
