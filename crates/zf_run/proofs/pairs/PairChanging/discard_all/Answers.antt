use Rattle.std.proofs.Common.{refl, length}
use Rattle.zf_cache.proofs.Steps.{discarded_at, empty_fits_at}
use Rattle.zf_store.specs.Stored.{format_of, code_at}
use Rattle.zf_twoway.specs.Placing.{skewed}
use Rattle.zf_run.{specs.Pairs.{pair_state}, proofs.Sessions.{discarded_is, two_suits}}
use Rattle.zf_run.proofs.pairs.PairChanging.discard_all.Goals as goal

pub returns : goal.returns
returns g c =
    let s = c.args.self.now.store.now in let k = c.args.self.now.cache.now in let value = g.T.Lane.value in
    let told = c.discard.ensures in let sound = c.requires.sound in record {
      does = discarded_is (pair_state value s k) (discarded_at skewed value (format_of s) (code_at s) k c.discard.new.self sound.fits told.empty told.counts) (two_suits g.T.Lane.width s.header sound.array.same_type) refl;
      sound = record { array = sound.array; fits = empty_fits_at skewed value (format_of s) (code_at s) c.discard.new.self (length k.tags) told.empty };
      kept = refl;
    }
