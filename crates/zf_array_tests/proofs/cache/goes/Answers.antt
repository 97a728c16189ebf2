use Rattle.std.proofs.Common.{length}
use Rattle.zf_base.specs.contracts.lane.I32Lane.TheImpl.{ghosts as lane}
use Rattle.zf_array_tests.specs.contracts.counted.CountedReadingI32.TheImpl.{ghosts as counted}
use Rattle.zf_cache.proofs.Steps.{empty_fits, part_written}
use Rattle.zf_array_tests.proofs.cache.goes.Goals as goal

pub returns-after-b-lt8-3-clause-fits : goal.returns-after-b-lt8-3-clause-fits
returns-after-b-lt8-3-clause-fits g c =
    let t = c.touch_mut.new.self in let back = c.touch_mut.new.back in
    (part_written lane.value (counted.format back) (counted.codes back) t c.in-Part.b c.in-Part.from 2 c.loop-value.value-items c.touch_mut.ensures.step.fits c.touch_mut.ensures.dirty
    c.part_mut-value-items.ensures.size.there).fits

pub returns-in-Discard-clause-fits : goal.returns-in-Discard-clause-fits
returns-in-Discard-clause-fits g c =
    let back = c.args.back.now in
    empty_fits lane.value (counted.format back) (counted.codes back) c.discard.new.self (length c.args.cache.now.tags) c.discard.ensures.empty
