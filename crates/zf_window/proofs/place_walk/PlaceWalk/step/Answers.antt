use Rattle.std.proofs.Common.{◌≡◌, ◌+◌, ◌-◌, ◌<◌, sym, subst, arith, rules}
use Rattle.zf_spec.specs.Grid.{product}
use Rattle.zf_cached.specs.Windows.{LiesIn}
use Rattle.zf_window.{specs.Places.{WalkingIn, IsThere, next_of}, proofs.Beside.{place_small}}
use Rattle.zf_window.proofs.place_walk.PlaceWalk.step.Goals as goal

pub rest_or_next-run-requires : goal.rest_or_next-run-requires
rest_or_next-run-requires c =
    record { keeps = c.self.invariant; inside = subst (λ (x : WalkingIn). x.next < product x.window.size) (sym c.self.view_is) c.requires }

pub overflow_add-self : goal.overflow_add-self
overflow_add-self c =
    let s = c.self.inside in
    let run = c.rest_or_next-run.ensures.run in
    let small = place_small s.shape c.rest_or_next-run.result.block (c.rest_or_next-run.result.place + 0) _ c.self.invariant.sizes (run.beside 0 run.some) in
    omega (arith, small)

pub invariant_of-self : goal.invariant_of-self
invariant_of-self c =
    let s = c.self.inside in
    let r = c.rest_or_next-run.result in
    let told = c.rest_or_next-run.ensures in
    let walk = c.rest_or_next-run.new.walk in
    let k = next_of s.walk s.rest in
    let next : walk.next - (r.count - 1) ≡ k + 1 = omega (arith, told.next, told.behind, told.run.some) in
    record {
      sizes = c.self.invariant.sizes;
      lies = subst (LiesIn s.shape) (sym told.window) c.self.invariant.lies;
      behind = omega (arith, told.behind);
      beside = λ i lt.
          let first : k + (1 + i) ≡ walk.next - (r.count - 1) + i = omega (arith, next) in
          let place : r.place + (1 + i) ≡ r.place + 1 + i = omega arith in
          let there = told.run.beside (1 + i) (omega (arith, lt)) in
          subst (λ w. IsThere s.shape w (walk.next - (r.count - 1) + i) r.block (r.place + 1 + i)) (sym told.window)
          (subst (λ m. IsThere s.shape s.walk.window m r.block (r.place + 1 + i)) first (subst (λ m. IsThere s.shape s.walk.window (k + (1 + i)) r.block m) place there));
    }

pub returns-clause-at : goal.returns-clause-at
returns-clause-at c = search rules

pub returns-clause-next : goal.returns-clause-next
returns-clause-next c = search rules
