use Rattle.std.{proofs.Common.{◌/◌, ◌^◌, get_or, length-set, rules}, proofs.lemmas.Nat.{and_mask}}
use Rattle.zf_coef.proofs.Prefixes.{prefix_set}
use Rattle.zf_coef.proofs.planes.sixteen_bits.Goals as goal

pub loop-j-preserved : goal.loop-j-preserved
loop-j-preserved c =
    let cut = and_mask (get_or c.args.words.now c.loop-j.j 0 / 2 ^ c.args.place) 16 in
    search (rules, length-set, prefix_set)
