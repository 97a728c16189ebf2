use Rattle.std.proofs.Common.{◌≡◌, refl, sym, subst, ◌∙◌, ℕ, ◌<◌, Bool, List, rules}
use Rattle.zf_spec.specs.Grid.{blocks}
use Rattle.zf_base.specs.Formats.{Format}
use Rattle.zf_header.specs.declared.header.Header.{Header}
use Rattle.zf_cached.{specs.State.{State}, specs.Touch.{touch}, specs.Arrays.{array_format}}
use Rattle.zf_cache.{specs.Kept.{line_of}, proofs.Sound.{values_here}}
use Rattle.zf_const.{specs.Parts.{Coded, code_at, format_of}}
use Rattle.zf_const.proofs.Standing.{state_held, has_blocks, header_now, format_now, step, touched_is}
use Rattle.zf_const.proofs.array.ConstArray.block.Goals as goal

below : (s : Coded) (h : Header) (b : ℕ) → h ≡ s.header → b < blocks h.shape → b < (format_of s).blocks
unfolding array_format
below s h b is lt = subst (λ (g : Header). b < blocks g.shape) is lt

pub touch_read-requires : goal.touch_read-requires
touch_read-requires g c = search (rules, header_now, has_blocks, below)

pub returns : goal.returns
returns g c =
    let s = c.self.inside in
    let b = c.args.b in
    let value = g.T.Lane.value in
    let now = c.args.self.now in
    let t = c.touch_read.new.back in
    let e = c.touch_read.new.self in
    let F = λ (f : Format (List Bool)) (u : State (List Bool)). touch f u b in
    let is = touched_is value g.T.Lane.width g.row.D s.codes s.cache c.self.invariant now c.self.view_is t e c.touch_read.ensures.step.kept c.touch_read.ensures.step.fits c.touch_read.ensures.clean b c.touch_read.ensures.step.state in
    let after = step value g.T.Lane.width g.row.D s.codes s.cache c.self.invariant now c.self.view_is t e c.touch_read.ensures.step.kept c.touch_read.ensures.step.fits c.touch_read.ensures.clean F c.touch_read.ensures.step.state in
    let same = format_now value g.T.Lane.width g.row.D s.codes s.cache c.self.invariant now c.self.view_is ∙ sym c.touch_read.ensures.step.format in
    let shown = values_here value (format_of t) e (code_at t) b (line_of e b) refl c.touch_read.ensures.here in
    let there = state_held value t e c.touch_read.ensures.step.fits c.touch_read.ensures.clean in search rules
