use Rattle.std.proofs.Common.{◌≡◌, ℕ, ◌+◌, ◌*◌, ◌/◌, ◌^◌, ◌<◌, ◌≤◌, Bool, true, false, ap, subst, refl, ◌∙◌, arith}
use Rattle.zf_spec.specs.Grid.{is_inside}
use Rattle.zf_base.{specs.Positions.{axes}, specs.declared.position.{Pos.{Pos}, Extent.{Extent}}}
use Rattle.zf_pad.specs.declared.layout.Layout.{Layout}
use Rattle.zf_pad.{specs.Layouts.{CanCopyRuns, index_of, place_indices}, proofs.Copying.{exists_here, run_within, all_runs, copied_none, copied_run, copied_skip, copied_all}}
use Rattle.zf_pad.proofs.copies.copy.Goals.{then-is_inside, else-is_inside}
use Rattle.zf_pad.proofs.copies.copy.Goals as goal

pub loop-run-init : goal.loop-run-init
loop-run-init g c = copied_none _ _ _ _ _ (c.args.len * 0) (omega arith)

-- a run whose first place exists lies within both lists
lies : (e : Extent) (d len : ℕ) (from : Layout) (m : ℕ) (to : Layout) (n : ℕ) → CanCopyRuns e d len from m to n → (r count : ℕ) (at : Pos) (b : Bool) → count ≡ 4 ^ d → r < count / len
    → at ≡ place_indices (len * r) → b ≡ is_inside (axes e.size) (axes at) → b ≡ true → (index_of from at + len ≤ m) × (index_of to at + len ≤ n)
lies e d len from m to n fits r count at b all lt is test was =
    run_within _ _ _ _ _ _ _ fits r _ _ (subst (λ k. r < k / len) all lt) (exists_here e (len * r) at b true is test was) (ap (index_of from) is) (ap (index_of to) is)

pub index-there-requires : goal.index-there-requires
index-there-requires g c = let at = lies _ _ _ _ _ _ _ c.requires _ _ _ _ c.block_len.ensures.value c.loop-run-test.true c.indices-at.ensures c.is_inside.ensures c.if-is_inside.true in omega (arith, at.0)

pub index-requires : goal.index-requires
index-requires g c = let at = lies _ _ _ _ _ _ _ c.requires _ _ _ _ c.block_len.ensures.value c.loop-run-test.true c.indices-at.ensures c.is_inside.ensures c.if-is_inside.true in omega (arith, at.1)

pub copy_run-requires-clause-there : goal.copy_run-requires-clause-there
copy_run-requires-clause-there g c =
    let at = lies _ _ _ _ _ _ _ c.requires _ _ _ _ c.block_len.ensures.value c.loop-run-test.true c.indices-at.ensures c.is_inside.ensures c.if-is_inside.true in omega (arith, at.0, c.index-there.ensures)

pub copy_run-requires-clause-room : goal.copy_run-requires-clause-room
copy_run-requires-clause-room g c =
    let at = lies _ _ _ _ _ _ _ c.requires _ _ _ _ c.block_len.ensures.value c.loop-run-test.true c.indices-at.ensures c.is_inside.ensures c.if-is_inside.true in omega (arith, at.1, c.index.ensures)

pub loop-run-preserved : goal.loop-run-preserved
loop-run-preserved g c =
    elim c.if-is_inside.branch [
      | then-is_inside w ↦
          let here = exists_here c.args.e.now (c.args.len * c.loop-run.run) c.indices-at.result _ true c.indices-at.ensures c.is_inside.ensures w.if-is_inside.true in
          rw w.target-is
          (copied_run _ _ _ _ _ _ _ c.requires _ _ _ _ c.loop-run.run _ _ _ (subst (λ n. c.loop-run.run < n / c.args.len) c.block_len.ensures.value c.loop-run-test.true) refl here
          (w.index-there.ensures ∙ ap (index_of c.args.from.now) c.indices-at.ensures) (w.index.ensures ∙ ap (index_of c.args.to.now) c.indices-at.ensures)
          w.copy_run.ensures c.loop-run.invariant)
      | else-is_inside w ↦
          let none = exists_here c.args.e.now (c.args.len * c.loop-run.run) c.indices-at.result _ false c.indices-at.ensures c.is_inside.ensures w.if-is_inside.false in
          rw w.target-is (copied_skip _ _ _ _ _ _ _ c.requires _ _ _ c.loop-run.run none c.loop-run.invariant)
    ]

pub returns : goal.returns
returns g c =
    let last : c.loop-run.run ≡ c.block_len.result / c.args.len = omega arith in
    let all = ap (λ r. c.args.len * r) last ∙ ap (λ n. c.args.len * (n / c.args.len)) c.block_len.ensures.value ∙ all_runs _ _ _ _ _ _ _ c.requires in
    copied_all _ _ _ _ _ c.args.d (c.args.len * c.loop-run.run) _ c.requires.four_at_most c.requires.extent all (omega (arith, all, c.block_len.ensures.value)) c.loop-run.invariant
