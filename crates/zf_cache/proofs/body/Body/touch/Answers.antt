use Rattle.std.proofs.Common.{rules, arith, refl, sym, ap, ◌∙◌, ◌/◌, ◌<◌, length}
use Rattle.std.proofs.lemmas.List.{get_or_default, length-set, set-set}
use Rattle.zf_cache.specs.declared.body.Body.{Body}
use Rattle.zf_cache.proofs.Sound.{row_there, none_in, hits_block, misses_block, comes_hitting, comes_missing}
use Rattle.zf_cache.proofs.body.Body.touch.Goals as goal

pub returns-then-index-b : goal.returns-then-index-b
returns-then-index-b g c =
    let a = c.args.self.now in let f = g.B.Reading.format c.args.back.now in let k = g.B.Reading.codes c.args.back.now in let b = c.args.b in let l = c.line_of-l.result in
    let tag = get_or_default a.tags.items l 0 c.index.result.now c.line_of-l.ensures.inside ∙ sym c.index.ensures in
    let d : Body g.row.T.Denot = record a { counts = record a.counts { hits = c.risen-self.result } } in
    let half = ap (λ t. t / 2) tag ∙ c.if-index-b.true in
    let row : l < length a.lines.blocks = omega (arith, c.line_of-l.ensures.inside, c.requires.ready.sound.whole.size.0) in
    let there = row_there a f.block_len c.requires.ready.sound.whole l (omega (arith, half)) in
    let both = hits_block g.R.Rule.place g.R.Placing.may_hold g.met.R.Rule.rule g.T.Lane.value a d f f k k refl c.requires.ready.sound b l half refl refl
    (ap (λ n. record { hits = n; misses = a.counts.misses; writes = a.counts.writes }) c.risen-self.ensures) refl in search (rules, comes_hitting)

pub take_in-requires-clause-line : goal.take_in-requires-clause-line
take_in-requires-clause-line g c = search (rules, length-set)

pub take_in-requires-clause-away : goal.take_in-requires-clause-away
take_in-requires-clause-away g c =
    let tag = get_or_default c.args.self.now.tags.items c.line_of-l.result 0 c.index.result.now c.line_of-l.ensures.inside ∙ sym c.index.ensures in search (rules, none_in)

pub returns : goal.returns
returns g c = search (rules, get_or_default, misses_block, comes_missing, set-set)
