use Rattle.std.proofs.Common.{rules, ◌≡◌, ℕ, ◌+◌, ◌<◌, ◌≤◌, get_or, length-set, get_or-set_same, get_or-set_other, ⊎_elim, arith}
use Rattle.std.proofs.lemmas.Bool.{cases_lt}
use Rattle.zf_coef.proofs.ShiftedBits.{low_half_moved, high_half_moved}
use Rattle.zf_coef.proofs.digits.unfold_from.Goals as goal

pub loop-r-preserved : goal.loop-r-preserved
loop-r-preserved g c =
    let fits = (c.type_inv.words c.loop-r.r).fits in
    let low = low_half_moved (get_or c.args.words.now c.loop-r.r 0) c.args.from c.requires.from in
    let high = high_half_moved (get_or c.args.words.now c.loop-r.r 0) c.args.from fits c.requires.from in
    let at : (j : ℕ) → j < c.loop-r.r + 1 → c.loop-r.r ≤ j → j ≡ c.loop-r.r = λ j h last. omega arith in
    record {
      lower = λ j h. ⊎_elim
          (search (rules, get_or-set_other))
          (λ last. rw (at j h last) (search (rules, get_or-set_other, get_or-set_same, length-set)))
          (cases_lt j c.loop-r.r);
      upper = λ j h. ⊎_elim
          (search (rules, get_or-set_other))
          (λ last. rw (at j h last) (search (rules, get_or-set_same, length-set)))
          (cases_lt j c.loop-r.r);
    }
