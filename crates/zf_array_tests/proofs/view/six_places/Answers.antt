use Rattle.std.proofs.Common.{◌≡◌, ℕ, refl, sym, subst, arith}
use Rattle.zf_window.specs.WindowFields.{AreUnused}
use Rattle.zf_array_tests.proofs.view.six_places.Goals as goal

line : (d a b c : ℕ) → d ≡ 1 → AreUnused d (record { x = a; y = 0; z = 0; w = 0 }) (record { x = b; y = 1; z = 1; w = 1 }) (record { x = c; y = 1; z = 1; w = 1 })
line d a b c one =
    subst (λ k. AreUnused k (record { x = a; y = 0; z = 0; w = 0 }) (record { x = b; y = 1; z = 1; w = 1 }) (record { x = c; y = 1; z = 1; w = 1 })) (sym one)
    (record { origins = refl; sizes = refl; steps = refl })

pub new-requires : goal.new-requires
new-requires g c = line _ _ _ _ (omega arith)
