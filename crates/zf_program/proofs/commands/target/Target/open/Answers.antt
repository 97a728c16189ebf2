use Rattle.std.{proofs.lemmas.Grind.{common_steps}, proofs.Common.{refl, arith}}
use Rattle.zf_array.specs.Standing.{stored, state}
use Rattle.zf_run.specs.Pairs.{pair_state}
use Rattle.zf_words.specs.declared.command.Caching.TheVariants.{Direct, TwoWay}
use Rattle.zf_program.proofs.Subjects.{HasHeader-run, StandsFor-array, StandsFor-stream, IsRefused-array, IsRefused-stream}
use Rattle.zf_program.proofs.commands.target.Target.open.Goals as goal

pub returns-in-Ok-clause-stands : goal.returns-in-Ok-clause-stands
returns-in-Ok-clause-stands g c =
    let m = c.in-Run-Direct in
    let caching_is = rw m.is at m.field-0-is in
    let l = c.args.loaded in
    let a = c.in-Ok.array in
    rw (m.is, caching_is) (StandsFor-array (Direct m.lines) g.T.Lane.width l.file.items l.header (stored a) (state a) c.line_count-count.result (HasHeader-run c.args.access _ l m.is c.requires.accessed) c.in-Ok.ensures.stored c.requires.same_type c.line_count-count.ensures.value c.in-Ok.ensures.state)

pub returns-in-Err-clause-refused : goal.returns-in-Err-clause-refused
returns-in-Err-clause-refused g c =
    let m = c.in-Run-Direct in
    let caching_is = rw m.is at m.field-0-is in
    let l = c.args.loaded in
    rw (c.from.ensures, m.is, caching_is) (IsRefused-array (Direct m.lines) l.file.items l.header c.in-Err.fault (HasHeader-run c.args.access _ l m.is c.requires.accessed) c.in-Err.ensures.fault)

pub returns-in-Ok-open-clause-stands : goal.returns-in-Ok-open-clause-stands
returns-in-Ok-open-clause-stands g c =
    let m = c.in-Run-TwoWay in
    let caching_is = rw m.is at m.field-0-is in
    let l = c.args.loaded in
    let pair = c.in-Ok-open.pair in
    rw (m.is, caching_is) (StandsFor-array (TwoWay m.lines) g.T.Lane.width l.file.items l.header pair.store (pair_state g.T.Lane.value pair.store pair.cache) m.lines (HasHeader-run c.args.access _ l m.is c.requires.accessed) c.in-Ok-open.ensures.stored c.requires.same_type refl c.in-Ok-open.ensures.state)

pub returns-in-Err-open-clause-refused : goal.returns-in-Err-open-clause-refused
returns-in-Err-open-clause-refused g c =
    let m = c.in-Run-TwoWay in
    let caching_is = rw m.is at m.field-0-is in
    let l = c.args.loaded in
    rw (c.from-in-Err-open.ensures, m.is, caching_is) (IsRefused-array (TwoWay m.lines) l.file.items l.header c.in-Err-open.fault (HasHeader-run c.args.access _ l m.is c.requires.accessed) c.in-Err-open.ensures.fault)

pub returns-in-Ok-from_file-clause-stands : goal.returns-in-Ok-from_file-clause-stands
returns-in-Ok-from_file-clause-stands g c =
    let m = c.in-Look in
    let found = c.in-Ok-from_file in
    let count = c.line_count-count-in-Look in
    rw m.is (StandsFor-stream m.lines g.T.Lane.width c.args.loaded.file.items c.args.loaded.header found.array count.result found.ensures.opened c.requires.same_type count.ensures.value found.ensures.state)

pub returns-in-Err-from_file-clause-refused : goal.returns-in-Err-from_file-clause-refused
returns-in-Err-from_file-clause-refused g c =
    rw (c.from-in-Err-from_file.ensures, c.in-Look.is) (IsRefused-stream c.in-Look.lines c.args.loaded.file.items c.in-Err-from_file.fault c.in-Err-from_file.ensures.fault)

pub returns-in-Ok-open-clause-fresh : goal.returns-in-Ok-open-clause-fresh
returns-in-Ok-open-clause-fresh g c = grind (arith, common_steps)
