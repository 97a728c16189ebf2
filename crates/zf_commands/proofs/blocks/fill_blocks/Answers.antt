use Rattle.std.proofs.Common.{◌∙◌, ap, subst, ◌<◌, arith, rules}
use Rattle.zf_spec.specs.Grid.{blocks}
use Rattle.zf_commands.{specs.Steps.{Fills}, proofs.Passing.{fill_next, stays_filled, filled_all}}
use Rattle.zf_commands.proofs.blocks.fill_blocks.Goals as goal

pub loop-b-init : goal.loop-b-init
loop-b-init g c = search rules

pub fill_block-requires-clause-block : goal.fill_block-requires-clause-block
fill_block-requires-clause-block g c = search rules

pub loop-b-preserved : goal.loop-b-preserved
loop-b-preserved g c =
    let inv = c.loop-b.invariant in
    let r = g.A.Subject.session _ in
    let s = g.A.Subject.session c.loop-b.a in
    let t = g.A.Subject.session c.fill_block.new.self in
    let k = c.loop-b.b in
    let x = g.T.Lane.value c.args.v in
    let told = c.fill_block.ensures in
    let below : k < blocks r.shape = omega (arith, c.blocks-b-end.ensures.value, ap blocks c.sizes.ensures, c.loop-b-test.true) in
    let fills = subst (λ h. Fills (g.A.Subject.setting h) k x s t) inv.kept told.does in record {
      kept = told.kept ∙ inv.kept;
      stays = stays_filled _ k x r s t inv.stays fills;
      filled = inv.filled ∙ fill_next _ s t k (blocks r.shape) x below fills;
      sound = told.sound;
    }

pub returns : goal.returns
returns g c =
    let inv = c.loop-b.invariant in
    let filled = inv.filled
    ∙ filled_all (g.A.Subject.setting (g.A.Subject.kept _)) (g.A.Subject.session c.loop-b.a) (g.T.Lane.value c.args.v) c.loop-b.b (blocks (g.A.Subject.session _).shape)
    (omega (arith, c.blocks-b-end.ensures.value, ap blocks c.sizes.ensures, c.loop-b-test.false)) in
    record { does = record { filled = filled; stays = inv.stays }; sound = inv.sound; kept = inv.kept }
