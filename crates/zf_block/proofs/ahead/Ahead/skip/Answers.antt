use Rattle.std.proofs.Common.{◌≡◌, ◌+◌, ◌-◌, ◌∙◌, ap, sym, ◌≤◌, length, take, drop, drop_at, arith}
use Rattle.std.proofs.lemmas.List.{length-take, drop-take}
use Rattle.zf_bits.specs.Reader.{rest}
use Rattle.zf_block.proofs.ahead.Ahead.skip.Goals as goal

pub returns : goal.returns
returns c =
    let a = c.self.inside in
    let s = rest a.reader in
    let n = c.args.n in
    let there = rw (← c.self.view_is) at c.requires in
    let within : n ≤ a.left = omega (arith, there, length-take a.left s) in
    let enough : n ≤ length s = omega (arith, there, length-take a.left s) in
    let first : length (take n s) ≡ n = omega (arith, length-take n s, enough) in
    let behind : drop n s ≡ rest c.skip.new.self = ap (drop n) c.skip.ensures.next ∙ drop_at (take n s) (rest c.skip.new.self) n first in
    let parts : n + (a.left - n) ≡ a.left = omega (arith, within) in
    rw (← c.self.view_is) (ap (take (a.left - n)) (sym behind) ∙ sym (drop-take n (a.left - n) s) ∙ ap (λ k. drop n (take k s)) parts)
