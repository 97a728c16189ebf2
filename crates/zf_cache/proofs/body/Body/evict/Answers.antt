use Rattle.std.proofs.Common.{rules, ◌≡◌, refl, sym, ap, ◌∙◌, ℕ, map, length, set, Option, Some, None, arith}
use Rattle.std.{proofs.lemmas.List.{get_or_default}, specs.Vec.{with_item}}
use Rattle.zf_base.specs.Formats.{with_at, encoded}
use Rattle.zf_cache.{specs.declared.body.Body.{Body}, specs.Bodies.{IsSound, counts_of, kept_of}}
use Rattle.zf_cache.{specs.Standing.{state_at, evicted}, specs.Kept.{dirty_of, tag_at}}
use Rattle.zf_cache.{proofs.Sound.{row_there, evicts, evicts_below}, proofs.Tags.{dirty_of-some}}
use Rattle.zf_cache.proofs.body.Body.evict.Goals.{in-Some, in_default}
use Rattle.zf_cache.proofs.body.Body.evict.Goals as goal

pub line-requires : goal.line-requires
line-requires g c =
    let a = c.args.self.now in
    let tag = get_or_default a.tags.items c.args.l 0 c.index.result.now c.requires.line ∙ sym c.index.ensures in
    let is = dirty_of-some (tag_at a.tags.items c.args.l) c.in-Some.b (ap dirty_of tag ∙ sym c.dirty_block.ensures ∙ c.in-Some.is) in
    row_there a (g.B.Reading.format c.args.back.now).block_len c.requires.sound.whole c.args.l (omega (arith, is))

pub store-requires : goal.store-requires
store-requires g c =
    let a = c.args.self.now in let f = g.B.Reading.format c.args.back.now in let k = g.B.Reading.codes c.args.back.now in
    let tag = get_or_default a.tags.items c.args.l 0 c.index.result.now c.requires.line ∙ sym c.index.ensures in
    let dirty = ap dirty_of tag ∙ sym c.dirty_block.ensures ∙ c.in-Some.is in
    record {
      whole = ap length c.line.ensures ∙ c.requires.sound.whole.size.1 c.args.l c.requires.line;
      block = evicts_below g.R.Rule.place g.R.Placing.may_hold g.met.R.Rule.rule g.T.Lane.value a a f f k k refl c.requires.sound c.args.l c.requires.line c.in-Some.b dirty;
    }

pub returns-clause-step : goal.returns-clause-step
returns-clause-step g c =
    let a = c.args.self.now in let f = g.B.Reading.format c.args.back.now in let k = g.B.Reading.codes c.args.back.now in let l = c.args.l in
    let place = g.R.Rule.place in let value = g.T.Lane.value in let m = c.match-dirty_block in
    let h = g.B.Reading.format m.back in let j = g.B.Reading.codes m.back in
    let tag = get_or_default a.tags.items l 0 c.index.result.now c.requires.line ∙ sym c.index.ensures in
    let d : Body g.row.T.Denot = record { lines = m.self.lines; tags = with_item m.self.tags l 0; counts = m.self.counts } in
    let evicted_is = λ (o : Option ℕ) (format : h ≡ f). evicts place g.R.Placing.may_hold g.met.R.Rule.rule value a d f h k j format c.requires.sound l c.requires.line o in
    let both : IsSound place value d h j × (state_at place value (kept_of d) h j ≡ evicted f (state_at place value (kept_of a) f k) l) = elim m.branch [
      | in-Some w ↦
          evicted_is (Some w.in-Some.b) (ap g.B.Reading.format w.back-is ∙ w.store.ensures.format) (ap dirty_of tag ∙ sym c.dirty_block.ensures ∙ w.in-Some.is)
          (ap (λ b. b.lines) w.self-is) (ap (λ b. set b.tags.items l 0) w.self-is)
          (ap (λ b. counts_of b.counts) w.self-is ∙ ap (λ n. record { hits = a.counts.hits; misses = a.counts.misses; writes = n }) w.risen-self.ensures)
          (ap g.B.Reading.codes w.back-is ∙ w.store.ensures.codes ∙ ap (λ r. with_at k w.in-Some.b (encoded f w.in-Some.b (map value r))) w.line.ensures)
      | in_default w ↦
          evicted_is None (ap g.B.Reading.format w.back-is) (ap dirty_of tag ∙ sym c.dirty_block.ensures ∙ w.in_default.is)
          (ap (λ b. b.lines) w.self-is) (ap (λ b. set b.tags.items l 0) w.self-is) (ap (λ b. counts_of b.counts) w.self-is) (ap g.B.Reading.codes w.back-is)
    ] in search (rules, in-Some, in_default)
