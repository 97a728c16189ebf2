use Rattle.std.proofs.Common.{take, map, string_bytes}
use Rattle.zf_words.specs.Stages.{LeadsTo}
use Rattle.zf_words.proofs.words.parse.Given as goal

-- the words so far lead to the stage
abbrev pub invariant-loop-number : goal.invariant-loop-number
invariant-loop-number l = LeadsTo (take l.number (map string_bytes l.words)) l.stage
