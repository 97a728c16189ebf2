use Rattle.std.proofs.Common.{◌≡◌, ◌∙◌, sym, ap, subst, ℕ, ◌+◌, ◌-◌, ◌*◌, ◌^◌, ◌<◌, ◌≤◌, pos, map, to_z, get_or, arith, rules}
use Rattle.std.{specs.Int.{w128}}
use Rattle.zf_spec.{specs.Grid.{count_from, product, coordinates}, proofs.Counting.{count_from-below}}
use Rattle.zf_base.{specs.Places.{block_number}, proofs.Places.{IsAt-block, IsAt-place}}
use Rattle.zf_cached.{specs.Windows.{Window as Part, mapped}, specs.Steps.{touched, value_there}}
use Rattle.zf_window.{specs.Places.{WalkingIn, IsThere}, proofs.Raster.{product_window}}
use Rattle.zf_window.specs.Bounds.{IsUpTo}
use Rattle.zf_commands.proofs.Passing.{stays_touched, touched_on, sum_from, sum_on, sum_starts, sum_ends, summed_fits, summed_is, up_to_more, up_to_less}
use Rattle.zf_commands.proofs.windows.sum_of_window.Goals as goal

pub count-number-end-requires : goal.count-number-end-requires
count-number-end-requires g c =
    let s = g.A.Subject.session c.args.a.now in
    omega (arith, product_window s.shape s.window c.requires.window, ap product c.sizes-shape.ensures, c.values-values.ensures.value, c.values-values.ensures.bound, ap (λ (u : Part). product u.size) c.window-window.ensures)

pub loop-number-init : goal.loop-number-init
loop-number-init g c = search (rules, sum_starts, sum_from)

pub new-walk-requires : goal.new-walk-requires
new-walk-requires g c = search rules

pub step-b-requires : goal.step-b-requires
step-b-requires g c = search rules

pub value_at-sum-requires : goal.value_at-sum-requires
value_at-sum-requires g c = search rules

pub overflow_add-sum : goal.overflow_add-sum
overflow_add-sum g c = search (rules, summed_fits)

pub loop-number-preserved : goal.loop-number-preserved
loop-number-preserved g c =
    let inv = c.loop-number.invariant in
    let r = g.A.Subject.session _ in
    let s = g.A.Subject.session c.loop-number.a in
    let t = g.A.Subject.session c.value_at-sum.new.self in
    let w = r.window in
    let ns = r.shape in
    let k = c.loop-number.number in
    let n = product w.size in
    let x = c.value_at-sum.result in
    let told = c.value_at-sum.ensures in
    let sum = to_z w128 c.loop-number.sum-bits in
    let S = g.A.Subject.setting (g.A.Subject.kept _) in
    let b = c.step-b.result.0 in
    let p = c.step-b.result.1 in
    let f = λ (k : ℕ). mapped w (coordinates w.size k) in
    let same = c.window-window.ensures in
    let many = ap (λ (u : Part). product u.size) same in
    let less : n ≤ 2 ^ 27 = omega (arith, product_window ns w c.requires.window, ap product c.sizes-shape.ensures, c.values-values.ensures.value, c.values-values.ensures.bound) in
    let below : k < n = omega (arith, c.count-number-end.ensures.value, c.loop-number-test.true, many) in
    let room : 2 ^ 63 * (k + 1) ≤ 2 ^ 100 = omega (arith, less, below) in
    let is = summed_is c.loop-number.sum-bits x k (2 ^ 63) room (omega arith) inv.small told.bound in
    let at = subst (λ (x : WalkingIn). IsThere x.shape x.window x.next b p) inv.walk c.step-b.ensures.at in
    let block = IsAt-block ns (f k) b p at in
    let place = IsAt-place ns (f k) b p at in
    let touches = touched_on g.A.Subject.setting (g.A.Subject.kept c.loop-number.a) (g.A.Subject.kept _) inv.kept b s t told.touched.does in record {
      kept = told.touched.kept ∙ inv.kept;
      stays = stays_touched S b r s t inv.stays touches;
      small = subst (IsUpTo (2 ^ 63 * (k + 1))) (sym is) (up_to_more (2 ^ 63) k sum x inv.small told.bound);
      sum = inv.sum ∙ ap (λ ks. sum_from S (block_number ns) value_there (map f ks) s sum) (count_from-below k n below)
          ∙ sum_on S (block_number ns) value_there (f k) (map f (count_from (k + 1) (n - (k + 1)))) s t
          (ap (touched S s) (sym block) ∙ touches) sum x _ (told.value ∙ (λ i. get_or (t.state.values (block i)) (place i) (pos 0))) is;
      sound = told.touched.sound;
      walk = c.step-b.ensures.next ∙ ap (λ (x : WalkingIn). record { shape = x.shape; window = x.window; next = x.next + 1 }) inv.walk;
    }

pub returns : goal.returns
returns g c =
    let inv = c.loop-number.invariant in
    let s = g.A.Subject.session _ in
    let w = s.window in
    let S = g.A.Subject.setting (g.A.Subject.kept _) in
    let B = block_number s.shape in
    let f = λ (k : ℕ). mapped w (coordinates w.size k) in
    let sum = to_z w128 c.loop-number.sum-bits in
    let t = g.A.Subject.session c.loop-number.a in
    let many = ap (λ (u : Part). product u.size) c.window-window.ensures in
    let none : product w.size - c.loop-number.number ≡ 0 = omega (arith, c.count-number-end.ensures.value, c.loop-number-test.false, many) in
    let less : product w.size ≤ 2 ^ 27 = omega (arith, product_window s.shape w c.requires.window, ap product c.sizes-shape.ensures, c.values-values.ensures.value, c.values-values.ensures.bound) in
    record {
      does = record {
        sum_is = inv.sum ∙ ap (λ m. sum_from S B value_there (map f (count_from c.loop-number.number m)) t sum) none ∙ sum_ends S B value_there t sum;
        bound = up_to_less (2 ^ 63 * c.loop-number.number) (2 ^ 100) sum (omega (arith, less, c.count-number-end.ensures.value, c.loop-number.auto.number-end, many)) inv.small;
        stays = inv.stays;
      };
      sound = inv.sound;
      kept = inv.kept;
    }
