use Rattle.std.proofs.Common.{◌≡◌, ◌∙◌, sym, ◌≤◌, take, take-take, arith}
use Rattle.std.proofs.lemmas.List.{length-take}
use Rattle.zf_spec.specs.Numbers.{field}
use Rattle.zf_bits.specs.Reader.{rest}
use Rattle.zf_planes.proofs.Peeking.{peeked}
use Rattle.zf_block.proofs.ahead.Ahead.peek.Goals as goal

pub returns : goal.returns
returns c k few there =
    let a = c.self.inside in
    let s = rest a.reader in
    let within = rw (← c.self.view_is) at there in
    let low : k ≤ a.left = omega (arith, within, length-take a.left s) in
    let seen : field k c.peek.result ≡ take k s = peeked s c.peek.result k c.peek.ensures few (omega (arith, within, length-take a.left s)) in
    rw (← c.self.view_is) (seen ∙ sym (take-take k a.left s low))
