use Rattle.std.{proofs.Common.{rules, refl, map, sym, ap, ◌∙◌}, proofs.lemmas.Bool.{false≢true}}
use Rattle.zf_block.proofs.Decoded.{passes_zeros, passes_block, lacks_block}
use Rattle.zf_block.proofs.codec.read_row.Goals as goal

pub returns-then-pass_zeros : goal.returns-then-pass_zeros
returns-then-pass_zeros g c =
    let d = c.args.d.count in
    let code = c.args.code.now in
    let zeros = c.if-pass_zeros.true in (
      tt,
      passes_zeros (g.C.BlockCode.len_at code) (g.C.BlockCode.planes_at code) c.args.reader.now c.pass_zeros.new.reader d _ refl
          g.T.Lane.width (g.C.BlockCode.back d) _ (c.pass_zeros.ensures.passes.1 zeros) _ c.args.d.range (c.pass_zeros.ensures.zeros zeros) c.zero.ensures.value (ap (map g.T.Lane.value) c.put_four.ensures ∙ c.inverse_of_first.ensures),
    )

pub read_four-requires : goal.read_four-requires
read_four-requires g c = rw (c.pass_zeros.ensures.passes.0 (λ t. false≢true (sym c.if-pass_zeros.false ∙ t))) (record { next = c.requires.next })

pub returns-in_err-read_four : goal.returns-in_err-read_four
returns-in_err-read_four g c = search (rules, false≢true, lacks_block)

pub returns : goal.returns
returns g c =
    let code = c.args.code.now in
    let back = g.C.BlockCode.back c.args.d.count in
    rw (← c.pass_zeros.ensures.passes.0 (λ t. false≢true (sym c.if-pass_zeros.false ∙ t))) (
      tt,
      passes_block (g.C.BlockCode.len_at code) (g.C.BlockCode.planes_at code) c.pass_zeros.new.reader c.read_four.new.reader c.args.d.count 4 c.requires.size
          g.T.Lane.width back _ c.in_ok-read_four.ensures.1.0 _ c.in_ok-read_four.ensures.1.1 (c.inverse.ensures ∙ ap back c.from_digits.ensures),
    )
