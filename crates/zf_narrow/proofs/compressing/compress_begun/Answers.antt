use Rattle.std.proofs.Common.{rules, ◌≡◌, sym, ap, length, Ok, Err}
use Rattle.std.proofs.lemmas.Bool.{and_parts}
use Rattle.zf_narrow.{proofs.Compressed.{Runs, run_good, run_fault}}
use Rattle.zf_stream.proofs.GivenBack.{compressed_by}
use Rattle.zf_narrow.proofs.GivenNarrow.{only_given, text_given, prefix_given}
use Rattle.zf_narrow.proofs.compressing.compress_begun.Goals as goal

pub returns-in-Ok-clause-outcome : goal.returns-in-Ok-clause-outcome
returns-in-Ok-clause-outcome g c =
    let source = c.compress-answer.new.src in
    let four : length c.new.result.value ≡ 4 = search rules in
    let runs : Runs c.args.n (g.S.Source.contents c.args.src.now) (g.S.Source.contents source.src.src.now) c.new.result source.promotion = search rules in
    let src_is = c.src-1.given.1 (sym (ap (λ (q : _). q.0) c.compress-answer.ensures.source.same)) in
    rw src_is (run_good c.args.n c.new.result source.promotion runs c.args.h.now _ _ c.requires.int32 c.in-Ok.ensures.outcome
    (compressed_by (only_given c.args.n c.new.result source.promotion runs c.requires.from c.requires.gave) (Ok tt) c.in-Ok.ensures.given))

pub returns-in-Err-clause-outcome : goal.returns-in-Err-clause-outcome
returns-in-Err-clause-outcome g c =
    let source = c.compress-answer.new.src in
    let four : length c.new.result.value ≡ 4 = search rules in
    let runs : Runs c.args.n (g.S.Source.contents c.args.src.now) (g.S.Source.contents source.src.src.now) c.new.result source.promotion = search rules in
    let src_is = c.src-1.given.1 (sym (ap (λ (q : _). q.0) c.compress-answer.ensures.source.same)) in
    rw (src_is, c.in_narrow_bytes.ensures)
    (run_fault c.args.n c.new.result source.promotion runs c.args.h.now c.in-Err.fault _ _ c.requires.int32 c.in-Err.ensures.outcome
    (compressed_by (only_given c.args.n c.new.result source.promotion runs c.requires.from c.requires.gave) (Err c.in-Err.fault) c.in-Err.ensures.given))

pub returns-in-Ok-clause-given : goal.returns-in-Ok-clause-given
returns-in-Ok-clause-given g c =
    let source = c.compress-answer.new.src in
    let four : length c.new.result.value ≡ 4 = search rules in
    let runs : Runs c.args.n (g.S.Source.contents c.args.src.now) (g.S.Source.contents source.src.src.now) c.new.result source.promotion = search rules in
    let src_is = c.src-1.given.1 (sym (ap (λ (q : _). q.0) c.compress-answer.ensures.source.same)) in
    rw src_is
    (record {
      ok = text_given c.args.n c.new.result source.promotion runs c.requires.from c.requires.gave c.args.h.now _ c.requires.int32 c.in-Ok.ensures.ended c.in-Ok.ensures.given.ok;
      err = tt;
    })

pub returns-in-Ok-clause-ended : goal.returns-in-Ok-clause-ended
returns-in-Ok-clause-ended g c =
    let src_is = c.src-1.given.1 (sym (ap (λ (q : _). q.0) c.compress-answer.ensures.source.same)) in
    rw src_is (and_parts _ _ c.in-Ok.ensures.ended).0

pub returns-in-Err-clause-given : goal.returns-in-Err-clause-given
returns-in-Err-clause-given g c =
    let source = c.compress-answer.new.src in
    let four : length c.new.result.value ≡ 4 = search rules in
    let runs : Runs c.args.n (g.S.Source.contents c.args.src.now) (g.S.Source.contents source.src.src.now) c.new.result source.promotion = search rules in
    let src_is = c.src-1.given.1 (sym (ap (λ (q : _). q.0) c.compress-answer.ensures.source.same)) in
    rw src_is (record { ok = tt; err = prefix_given c.args.n c.new.result source.promotion runs c.requires.from c.requires.gave c.args.h.now c.in-Err.ensures.given.err })
