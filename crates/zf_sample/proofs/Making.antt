-- Values made so far and those to come.
use Rattle.std.proofs.Common.{◌≡◌, ℕ, suc, ℤ, List, ◌++◌, map, ap, ◌∙◌, append_assoc, rules}
use Rattle.std.specs.Int.{Width, to_le_bytes, cast_unsigned}
use Rattle.rand_core.specs.Stream.{Stream, next_u64}
use Rattle.zf_spec.specs.Stream.{raw}
use Rattle.zf_sample.specs.Made.{words}

-- one more value
pub next_value : (w : Width) (f : ℕ → ℤ) (old new : List ℕ) (k n : ℕ) (s t : Stream) (word : ℕ) (v : ℤ) → n ≡ suc k → (word, t) ≡ next_u64 s → v ≡ f word → new ≡ old ++ to_le_bytes w (cast_unsigned w v)
    → new ++ raw w (map f (words k t)) ≡ old ++ raw w (map f (words n s))
next_value w f old new k n s t word v is_next step value pushed =
    let first : word ≡ (next_u64 s).0 = ap (λ p. p.0) step in
    let rest : t ≡ (next_u64 s).1 = ap (λ p. p.1) step in
    let bytes : to_le_bytes w (cast_unsigned w v) ≡ to_le_bytes w (cast_unsigned w (f (next_u64 s).0)) = ap (λ u. to_le_bytes w (cast_unsigned w u)) (value ∙ ap f first) in
    let behind : raw w (map f (words k t)) ≡ raw w (map f (words k (next_u64 s).1)) = ap (λ u. raw w (map f (words k u))) rest in
    ap (λ xs. xs ++ raw w (map f (words k t))) pushed
    ∙ (append_assoc old (to_le_bytes w (cast_unsigned w v)) (raw w (map f (words k t)))
    ∙ (search rules))
