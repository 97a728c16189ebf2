use Rattle.std.proofs.Common.{rules, ◌≡◌, sym, ap, subst, ◌∙◌, ◌*◌, ◌≤◌, List, length, map, arith}
use Rattle.std.proofs.lemmas.List.{length-map, take_at}
use Rattle.zf_spec.specs.Stream.{raw}
use Rattle.zf_window.proofs.Raster.{product_window}
use Rattle.zf_part.specs.Windows.{IsWindowOf}
use Rattle.zfpi_c.proofs.Written.{wrote_as, values_fit}
use Rattle.zfpi_c.proofs.parts.part_of.Goals as goal

pub count-count-requires : goal.count-count-requires
count-count-requires g c = omega (arith, product_window c.args.h.now.shape c.args.w.now c.requires.lies, c.values-most.ensures.value, c.values-most.ensures.bound)

pub put_over-requires : goal.put_over-requires
put_over-requires g c =
    let n = c.count-count.result in
    let vs = c.read_window.new.out in
    let count : length vs ≡ n = sym (length-map vs g.T.Lane.value) ∙ c.in_ok-read_window.ensures.window.count ∙ sym c.count-count.ensures.value in
    let long : length vs ≡ c.in_ok-values.values.len = count ∙ sym c.in_ok-values.ensures.len in
    let is : c.deref.result.now ≡ vs = c.deref.ensures.value ∙ take_at vs _ c.in_ok-values.values.len long in
    record { room = values_fit (length c.deref.result.now) n _ c.value_len-bytes.result (length c.args.out.now) (ap length is ∙ count) (sym c.value_len-bytes.ensures.value) (search rules) }

pub returns-clause-ok : goal.returns-clause-ok
returns-clause-ok g c =
    let n = c.count-count.result in
    let vs = c.read_window.new.out in
    let count : length vs ≡ n = sym (length-map vs g.T.Lane.value) ∙ c.in_ok-read_window.ensures.window.count ∙ sym c.count-count.ensures.value in
    let long : length vs ≡ c.in_ok-values.values.len = count ∙ sym c.in_ok-values.ensures.len in
    let is : c.deref.result.now ≡ vs = c.deref.ensures.value ∙ take_at vs _ c.in_ok-values.values.len long in
    let xs = map g.T.Lane.value c.deref.result.now in
    wrote_as (λ text text_is. record {
      lies = c.requires.lies;
      values = xs;
      are = subst (λ (ys : List _). IsWindowOf c.args.stream.now c.args.h.now c.args.w.now (map g.T.Lane.value ys)) (sym is) c.in_ok-read_window.ensures.window;
      bytes = text_is ∙ ap (λ w. raw w xs) c.requires.same_type;
    }) c.put_over.ensures
