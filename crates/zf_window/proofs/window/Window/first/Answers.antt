use Rattle.zf_window.proofs.Walks.{numbered-zero}
use Rattle.zf_window.proofs.window.Window.first.Goals as goal

pub returns : goal.returns
returns c = numbered-zero c.args.self.now
