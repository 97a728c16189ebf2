use Rattle.std.{proofs.Common.{◌≡◌, refl, sym, ap, subst, ◌∙◌, ◌<◌, ◌≤◌, ◌+◌, ◌*◌, length, map, max, slice_set, [], arith}, specs.Vec.{with_item}}
use Rattle.std.proofs.lemmas.List.{get_or-set_same}
use Rattle.zf_base.specs.Formats.{existing_of}
use Rattle.zf_lines.{specs.Rows.{line_at, over, with_line}, specs.Seen.{Seen}, proofs.Sizes.{length-over, over_same}}
use Rattle.zf_cache.{specs.declared.body.Body.{Body}, proofs.Sound.{takes}}
use Rattle.zf_cache.proofs.body.Body.take_in.Goals as goal

pub write_to-requires : goal.write_to-requires
write_to-requires g c = subst (λ n. c.args.l < n) (sym c.requires.sound.whole.size.0) c.requires.line.0

pub line_mut-requires : goal.line_mut-requires
line_mut-requires g c =
    let w : c.write_to.new.self.written ≡ max c.args.self.now.lines.written (c.args.l + 1) = ap (λ (s : Seen g.row.T.Denot). s.written) c.write_to.ensures in omega (arith, w)

pub returns : goal.returns
returns g c =
    let a = c.args.self.now in let f = g.B.Reading.format c.args.back.now in let k = g.B.Reading.codes c.args.back.now in let l = c.args.l in let b = c.args.b in
    let sound = c.requires.sound in let lt = c.requires.line.0 in
    let w = max a.lines.written (l + 1) in
    let there : l < w = omega arith in
    let more : a.lines.written ≤ w = omega arith in
    let was : line_at c.write_to.new.self.blocks l ≡ line_at a.lines.blocks l = ap (λ (s : Seen g.row.T.Denot). line_at s.blocks l) c.write_to.ensures in
    let row = over (line_at a.lines.blocks l) c.load.new.line in
    let d : Body g.row.T.Denot = record {
      lines = record { blocks = with_line c.write_to.new.self.blocks l c.load.new.line; written = c.write_to.new.self.written };
      tags = with_item a.tags l (2 * b + 2);
      counts = record { hits = a.counts.hits; misses = c.risen-self.result; writes = a.counts.writes };
    } in
    let lines_are : d.lines ≡ record { blocks = with_line a.lines.blocks l c.load.new.line; written = w } =
    ap (λ (s : Seen g.row.T.Denot). record s { blocks = with_line s.blocks l c.load.new.line }) c.write_to.ensures in
    let long = length-over (line_at a.lines.blocks l) c.load.new.line ∙ sound.whole.size.1 l lt in
    let same = over_same (line_at a.lines.blocks l) c.load.new.line (c.load.auto.line ∙ ap length (c.line_mut.ensures.value ∙ was)) in
    let loaded = ap (λ r. existing_of f b (map g.T.Lane.value r)) same ∙ c.load.ensures.value in
    let both = takes g.R.Rule.place g.R.Placing.may_hold g.met.R.Rule.rule g.T.Lane.value a d f (g.B.Reading.format c.load.new.self) k (g.B.Reading.codes c.load.new.self) c.load.ensures.format sound l lt b row long
    w more there c.requires.line.1 c.requires.empty c.requires.away loaded c.requires.block.0 lines_are refl (ap (λ n. record { hits = a.counts.hits; misses = n; writes = a.counts.writes }) c.risen-self.ensures) c.load.ensures.codes in
    let here : l < length a.lines.blocks = omega (arith, lt, sound.whole.size.0) in
    record {
      step = record { state = both.1; fits = both.0; format = c.load.ensures.format; kept = c.load.ensures.kept };
      tags = refl;
      lines = ap (λ (s : Seen g.row.T.Denot). s.blocks) lines_are ∙ ap (slice_set a.lines.blocks l) (sym (ap (λ (s : Seen g.row.T.Denot). line_at s.blocks l) lines_are ∙ get_or-set_same a.lines.blocks l row [] here));
      written = subst (λ (s : Seen g.row.T.Denot). l < s.written) (sym lines_are) there;
    }
