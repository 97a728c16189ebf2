use Rattle.std.proofs.Common.{refl, ap, sym, ◌∙◌, ◌^◌, length, arith}
use Rattle.zf_base.{specs.Positions.{used_axes}, specs.Places.{block_number, place_of}}
use Rattle.zf_cached.{specs.Placing.{direct}, specs.Touch.{touch}, proofs.Caching.{touch-left}}
use Rattle.zf_const.specs.Standing.{state, format, shape, block_at, touched}
use Rattle.zf_window.{specs.Positions.{position_at}}
use Rattle.zf_view.{specs.ViewLoans.{const_view_of}, proofs.Runs.{run_within, run_shown, len_of, exists_of}}
use Rattle.zf_view.proofs.const_view.ConstView.run.Goals as goal

pub part-requires : goal.part-requires
part-requires g c =
    let now = c.args.self.now in
    let a = now.array.now in
    let shape_is = c.shape.ensures.value in
    let ek = c.place-b.ensures.place ∙ (λ i. place_of (used_axes (length (shape_is i)) (c.map-first.ensures.value i))) in
    let dims = ap length (sym shape_is) ∙ c.shape.ensures.dims in
    let whole = c.block.ensures.size ∙ ap (λ d. 4 ^ d) (sym dims) in
    omega (arith, ek, c.run_length-len.ensures, whole, run_within (shape a) now.window c.args.p c.requires.at.lies c.requires.at.position c.requires.step)

pub returns : goal.returns
returns g c =
    let now = c.args.self.now in
    let a = now.array.now in
    let shape_is = c.shape.ensures.value in
    let at = block_at a (position_at now.window c.args.p) in
    let eb = c.place-b.ensures.block ∙ (λ i. block_number (shape_is i) (used_axes (length (shape_is i)) (c.map-first.ensures.value i))) in
    let ek = c.place-b.ensures.place ∙ (λ i. place_of (used_axes (length (shape_is i)) (c.map-first.ensures.value i))) in
    let whole = c.block.ensures.size ∙ ap (λ d. 4 ^ d) (sym (ap length (sym shape_is) ∙ c.shape.ensures.dims)) in (
      (refl, (λ v. tt), ap (const_view_of now) (c.block.follows.holds-at-none ∙ ap (touched a) eb)),
      record {
        touched = tt;
        shows = run_shown (shape a) now.window c.args.p c.requires.at.lies c.requires.at.position c.requires.step (format a) (len_of _ (shape a)) (exists_of _ (shape a)) c.place-b.result.0 c.place-b.result.1 c.run_length-len.result
            eb ek c.run_length-len.ensures g.T.Lane.value c.block.result.now whole ((state a).values at)
            (c.block.ensures.value ∙ ap (λ b. (touch (format a) (state a) b).values b) eb ∙ (touch-left direct (format a) (state a) at).values) c.part.result.now c.part.ensures;
        state = ap (λ b. state (touched a b)) (sym eb) ∙ c.block.ensures.state ∙ ap (touch (format a) (state a)) eb;
      },
    )
