use Rattle.std.proofs.Common.{rules, arith, refl, sym, ap, ◌∙◌, ◌/◌, ◌<◌, length, None}
use Rattle.std.{proofs.lemmas.List.{get_or_default, set-set, length-set}, specs.Vec.{with_item}}
use Rattle.zf_cache.{specs.declared.body.Body.{Body}, specs.Kept.{tag_at, clean_tag}, proofs.Tags.{undirty}}
use Rattle.zf_cache.proofs.Sound.{row_there, none_in, stays_clean, evicts, hits_block, misses_block, comes_hitting, comes_missing}
use Rattle.zf_cache.proofs.body.Body.touch_read.Goals as goal

pub returns-then-index-b : goal.returns-then-index-b
returns-then-index-b g c =
    let a = c.args.self.now in let f = g.B.Reading.format c.args.back.now in let k = g.B.Reading.codes c.args.back.now in let b = c.args.b in let l = c.line_of-l.result in
    let tag = get_or_default a.tags.items l 0 c.index.result.now c.line_of-l.ensures.inside ∙ sym c.index.ensures in
    let d : Body g.row.T.Denot = record a { counts = record a.counts { hits = c.risen-self.result } } in
    let half = ap (λ t. t / 2) tag ∙ c.if-index-b.true in
    let row : l < length a.lines.blocks = omega (arith, c.line_of-l.ensures.inside, c.requires.ready.sound.whole.size.0) in
    let there = row_there a f.block_len c.requires.ready.sound.whole l (omega (arith, half)) in
    let both = hits_block g.R.Rule.place g.R.Placing.may_hold g.met.R.Rule.rule g.T.Lane.value a d f f k k refl c.requires.ready.sound b l half refl refl
    (ap (λ n. record { hits = n; misses = a.counts.misses; writes = a.counts.writes }) c.risen-self.ensures) refl in search (rules, comes_hitting)

pub take_in-requires-clause-line : goal.take_in-requires-clause-line
take_in-requires-clause-line g c = search (rules, length-set)

pub take_in-requires-clause-away : goal.take_in-requires-clause-away
take_in-requires-clause-away g c = search (rules, none_in)

pub take_in-requires-clause-sound : goal.take_in-requires-clause-sound
take_in-requires-clause-sound g c =
    let a = c.args.self.now in let f = g.B.Reading.format c.args.back.now in let k = g.B.Reading.codes c.args.back.now in let value = g.T.Lane.value in
    let l = c.line_of-l.result in
    let d : Body g.row.T.Denot = record { lines = a.lines; tags = with_item a.tags l 0; counts = a.counts } in
    (evicts g.R.Rule.place g.R.Placing.may_hold g.met.R.Rule.rule value a d f f k k refl c.requires.ready.sound l c.line_of-l.ensures.inside None (undirty (tag_at a.tags.items l) (c.requires.clean l)) refl refl refl refl).0

pub returns : goal.returns
returns g c =
    let a = c.args.self.now in let f = g.B.Reading.format c.args.back.now in let k = g.B.Reading.codes c.args.back.now in let b = c.args.b in let value = g.T.Lane.value in
    let l = c.line_of-l.result in let lt = c.line_of-l.ensures.inside in let second = c.take_in.ensures.step in
    let tag = get_or_default a.tags.items l 0 c.index.result.now lt ∙ sym c.index.ensures in
    let d : Body g.row.T.Denot = record { lines = a.lines; tags = with_item a.tags l 0; counts = a.counts } in
    let emptied = evicts g.R.Rule.place g.R.Placing.may_hold g.met.R.Rule.rule value a d f f k k refl c.requires.ready.sound l lt None (undirty (tag_at a.tags.items l) (c.requires.clean l)) refl refl refl refl in
    let e = c.take_in.ensures in let tags = e.tags ∙ set-set a.tags.items l 0 (clean_tag b) in
    let row : l < length a.lines.blocks = omega (arith, c.line_of-l.ensures.inside, c.requires.ready.sound.whole.size.0) in search (rules, misses_block, stays_clean, comes_missing)
