use Rattle.std.proofs.Common.{◌∙◌, sym}
use Rattle.zf_array.specs.Standing.{state}
use Rattle.zf_run.proofs.Sessions.{filled_is, filled_alike, array_suits, same_whole, still_array, rate_blocks}
use Rattle.zf_run.proofs.arrays.WholeChanging.fill_block.Goals as goal

pub returns : goal.returns
returns g c =
    let a = c.args.self.now.array.now in let value = g.T.Lane.value in let w = g.T.Lane.width in let told = c.block_mut.ensures in let is = c.requires.sound in
    let head = told.header _ in record {
      does = filled_is (state a) c.args.b (value c.args.v) _ (told.state _) (filled_alike value c.block_mut.result.now c.fill_line.new.line c.args.v _ c.fill_line.ensures (told.size ∙ sym (rate_blocks w g.row.D a.header is).0))
          (array_suits w a.header is.same_type) head;
      sound = still_array w g.row.D a.header _ head is;
      kept = same_whole _ _ a.header _ head;
    }
