use Rattle.std.proofs.Common.{refl, ap, sym, ◌∙◌, ◌^◌, ℕ, length, rules}
use Rattle.zf_base.{specs.Positions.{used_axes}, specs.Places.{block_number, place_of}}
use Rattle.zf_cached.specs.Touch.{touch}
use Rattle.zf_array.specs.Standing.{Held, state, format, shape, array_of}
use Rattle.zf_window.{specs.Positions.{position_at}}
use Rattle.zf_view.{specs.ViewLoans.{view_of}, specs.Runs.{block_found}}
use Rattle.zf_view.proofs.Runs.{run_within, run_shown, len_of, exists_of, found_is}
use Rattle.zf_view.proofs.view.View.run.Goals as goal

pub part-requires : goal.part-requires
part-requires g c = search (rules, run_within)

pub returns : goal.returns
returns g c =
    let now = c.args.self.now in
    let a = now.array.now in
    let shape_is = c.shape.ensures.value in
    let eb = c.place-b.ensures.block ∙ (λ i. block_number (shape_is i) (used_axes (length (shape_is i)) (c.map-first.ensures.value i))) in
    let ek = c.place-b.ensures.place ∙ (λ i. place_of (used_axes (length (shape_is i)) (c.map-first.ensures.value i))) in
    let whole = c.block.ensures.size ∙ ap (λ d. 4 ^ d) (sym (ap length (sym shape_is) ∙ c.shape.ensures.dims)) in
    let Touched : ℕ → Held = λ b. array_of a.header (touch (format a) (state a) b) in (
      (refl, (λ v. tt), ap (view_of now) (c.block.follows.holds-at-none ∙ ap Touched eb)),
      record {
        touched = tt;
        shows = run_shown (shape a) now.window c.args.p c.requires.at.lies c.requires.at.position c.requires.step (format a) (len_of _ (shape a)) (exists_of _ (shape a)) c.place-b.result.0 c.place-b.result.1 c.run_length-len.result
            eb ek c.run_length-len.ensures g.T.Lane.value c.block.result.now whole (block_found a (position_at now.window c.args.p))
            (c.block.ensures.value ∙ found_is a (position_at now.window c.args.p) c.place-b.result.0 eb) c.part.result.now c.part.ensures;
        state = ap (λ b. state (Touched b)) (sym eb) ∙ c.block.ensures.state ∙ ap (touch (format a) (state a)) eb;
      },
    )
