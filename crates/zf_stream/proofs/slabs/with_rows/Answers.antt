use Rattle.std.proofs.Common.{rules, ◌≡◌, ℕ, ◌≤◌, List, [], ◌∷◌, length, get_or, take, refl, sym, subst, ◌∙◌, arith}
use Rattle.zf_spec.specs.Grid.{IsShape}
use Rattle.zf_pad.{specs.Slabs.{with_rows}, proofs.Slabs.{length-with_rows, IsShape-with_rows}}
use Rattle.zf_stream.proofs.slabs.with_rows.Goals as goal

-- at most four sizes, one after another
by_size : (d : ℕ) (ns : List ℕ) → d ≡ length ns → d ≤ 4 → take d (get_or ns 0 1 ∷ get_or ns 1 1 ∷ get_or ns 2 1 ∷ get_or ns 3 1 ∷ []) ≡ ns
by_size d (a ∷ b ∷ c ∷ e ∷ f ∷ ns) is four = absurd (omega arith)
by_size d ns is four = rw is refl

sizes : (d rows a b c e : ℕ) (ns : List ℕ) → d ≡ length ns → d ≤ 4 → a ≡ get_or (with_rows rows ns) 0 1 → b ≡ get_or (with_rows rows ns) 1 1 → c ≡ get_or (with_rows rows ns) 2 1 → e ≡ get_or (with_rows rows ns) 3 1
    → take d (a ∷ b ∷ c ∷ e ∷ []) ≡ with_rows rows ns
sizes d rows a b c e ns is four at_a at_b at_c at_e =
    rw (at_a, at_b, at_c, at_e) (by_size d (with_rows rows ns) (is ∙ sym (length-with_rows rows ns)) four)

pub unreachable-requires : goal.unreachable-requires
unreachable-requires c =
    let ns = c.args.shape.now in
    let same = sizes c.dims.result c.args.rows _ _ _ _ ns c.dims.ensures.value (omega (arith, c.dims.ensures.value, c.dims.ensures.shape.four_at_most))
    c.size_with_rows.ensures c.size_with_rows-2.ensures c.size_with_rows-3.ensures c.size_with_rows-4.ensures in
    let shape = IsShape-with_rows c.args.rows ns c.dims.ensures.shape c.requires.some c.requires.few in
    let ok = c.in-Err.ensures.shape.1 (subst IsShape (sym same) shape) in
    cc

pub returns : goal.returns
returns c = search (rules, sizes)
