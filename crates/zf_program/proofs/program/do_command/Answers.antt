use Rattle.std.proofs.Common.{◌≡◌, [], Some, None, Ok, refl}
use Rattle.zf_program.specs.Fetching.{Fetches}
use Rattle.zf_program.specs.Steps.{Gave}
use Rattle.zf_words.specs.declared.command.Command.TheVariants.{Compress, CompressNarrow, Restore, RestoreNarrow, Info, New, Bound, Sample}
use Rattle.zf_program.{proofs.Causes.{HasCauses-sure}, proofs.Stopping.{StopsAtEnd-same}}
use Rattle.zf_program.proofs.Stepping.{Steps-sent, Steps-by, Told-behaves, Gave-none}
use Rattle.zf_program.proofs.HandedOn.{Appends-stays, Behaves-sent, HasCauses-sent, IsSent-sent, Fulfils-sent, unloaded_sent, unsaved_sent}
use Rattle.zf_program.proofs.program.do_command.Goals as goal

pub returns-in-Compress : goal.returns-in-Compress
returns-in-Compress g c = rw c.in-Compress.is (Fulfils-sent (Compress c.in-Compress.header) _ _ tt refl refl _ _ _ _ _ _ c.compress.ensures c.send.ensures)

pub returns-in-CompressNarrow : goal.returns-in-CompressNarrow
returns-in-CompressNarrow g c = rw c.in-CompressNarrow.is (Fulfils-sent (CompressNarrow c.in-CompressNarrow.narrow c.in-CompressNarrow.header) _ _ tt refl refl _ _ _ _ _ _ c.compress_narrow.ensures c.send-in-CompressNarrow.ensures)

pub returns-in-Restore : goal.returns-in-Restore
returns-in-Restore g c = rw c.in-Restore.is (Fulfils-sent Restore _ _ tt refl refl _ _ _ _ _ _ c.restore.ensures c.send-in-Restore.ensures)

pub returns-in-RestoreNarrow : goal.returns-in-RestoreNarrow
returns-in-RestoreNarrow g c = rw c.in-RestoreNarrow.is (Fulfils-sent (RestoreNarrow c.in-RestoreNarrow.narrow) _ _ tt refl refl _ _ _ _ _ _ c.restore_narrow.ensures c.send-in-RestoreNarrow.ensures)

pub returns-in-Info : goal.returns-in-Info
returns-in-Info g c = rw c.in-Info.is (Fulfils-sent Info _ _ tt refl refl _ _ _ _ _ _ c.info.ensures c.send-in-Info.ensures)

pub returns-in-Sample : goal.returns-in-Sample
returns-in-Sample g c = rw c.in-Sample.is (Fulfils-sent (Sample c.in-Sample.header c.in-Sample.seed) _ _ tt refl refl _ _ _ _ _ _ (record {
  behaves = λ files. c.sample.ensures.behaves _ files;
  causes = HasCauses-sure _ _ _ _ (c.sample.ensures.causes _);
  stops = StopsAtEnd-same _ _ _;
  exact = λ told exact. exact;
  told = λ work.
      let sample = Sample c.in-Sample.header c.in-Sample.seed in
      Told-behaves sample (Ok []) (Gave g.S.Source sample _ _) _ _ c.sample.result work (c.sample.ensures.behaves (Some []) None) (λ w starved taken. refl) (Gave-none g.S.Source sample _ [] refl refl) tt;
}) c.send-in-Sample.ensures)

pub returns-in-Bound : goal.returns-in-Bound
returns-in-Bound g c =
    let bound = Bound c.in-Bound.name c.in-Bound.most in
    let sends = c.send-in-Bound.ensures in
    let behaves = Behaves-sent bound _ _ tt _ _ _ _ _ (c.bound.ensures.behaves _) sends in
    rw c.in-Bound.is (record {
      behaves = behaves;
      causes = HasCauses-sent bound _ _ tt _ _ _ _ _ (HasCauses-sure _ _ _ _ (c.bound.ensures.causes _)) sends;
      stops = StopsAtEnd-same _ _ _;
      exact = λ told exact. exact;
      steps = Steps-by (λ bytes. bytes ≡ []) _ (λ bytes is. Gave-none g.S.Source bound _ bytes refl is) (Steps-sent (Fetches g.F.Shelf.fronts g.F.Shelf.loads) g.F.Shelf.saves g.F.Shelf.faults bound _ _ _ _ _ _ _ _ refl sends.ends (λ text written. Appends-stays _ _ _ text written sends.stays) c.bound.ensures.steps);
      sure_shelf = λ sure. let loaded = c.bound.ensures.sure_shelf sure in (unloaded_sent _ _ loaded.0 sends, loaded.1);
      sure_saves = λ sure. let saved = c.bound.ensures.sure_saves sure in (unsaved_sent _ _ saved.0 sends, saved.1);
      sent = λ flushed. IsSent-sent bound _ _ tt _ _ _ _ _ behaves (c.bound.ensures.causes 0).writing.0 sends;
    })

pub returns-in-New : goal.returns-in-New
returns-in-New g c = rw c.in-New.is (record {
  behaves = c.new.ensures.behaves _ _;
  causes = HasCauses-sure _ _ _ _ (c.new.ensures.causes _ _);
  stops = StopsAtEnd-same _ _ _;
  exact = λ told exact. exact;
  steps = Steps-by (λ bytes. bytes ≡ []) _ (λ bytes is. Gave-none g.S.Source (New c.in-New.name c.in-New.ty c.in-New.shape c.in-New.bits) _ bytes refl is) (c.new.ensures.steps _);
  sure_shelf = c.new.ensures.sure_shelf;
  sure_saves = c.new.ensures.sure_saves;
  sent = λ flushed why. flushed;
})

pub returns-in-Run : goal.returns-in-Run
returns-in-Run g c = rw c.in-Run.is c.script.ensures

pub returns-in-Look : goal.returns-in-Look
returns-in-Look g c = rw c.in-Look.is c.script-in-Look.ensures
