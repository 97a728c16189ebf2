use Rattle.zf_block.proofs.TurnedDigits.{turned_32}
use Rattle.zf_block.proofs.first_code.turned_digits.Goals as goal

pub returns : goal.returns
returns c = turned_32 c.args.word
