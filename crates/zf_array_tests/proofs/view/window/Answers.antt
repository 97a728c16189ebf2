use Rattle.std.proofs.Common.{◌≡◌, ℕ, refl, sym, subst}
use Rattle.zf_window.specs.WindowFields.{AreUnused}
use Rattle.zf_array_tests.proofs.view.window.Goals as goal

plane : (d a b e f g h : ℕ) → d ≡ 2 → AreUnused d (record { x = a; y = b; z = 0; w = 0 }) (record { x = e; y = f; z = 1; w = 1 }) (record { x = g; y = h; z = 1; w = 1 })
plane d a b e f g h two =
    subst (λ k. AreUnused k (record { x = a; y = b; z = 0; w = 0 }) (record { x = e; y = f; z = 1; w = 1 }) (record { x = g; y = h; z = 1; w = 1 })) (sym two)
    (record { origins = refl; sizes = refl; steps = refl })

pub new-requires : goal.new-requires
new-requires c = plane _ _ _ _ _ _ _ c.requires
