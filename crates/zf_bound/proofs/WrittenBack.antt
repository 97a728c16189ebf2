-- What a write-back loses.
use Rattle.std.proofs.Common.{◌≡◌, sym, subst, ◌∙◌, ℕ, ◌<◌, ◌≤◌, ℤ, Bool, true, List, length, arith}
use Rattle.std.{specs.Prelude.{All}, proofs.lemmas.List.Elements.{All-from_recursion}}
use Rattle.std.specs.Int.{Width}
use mir.Val.{bits}
use Rattle.zf_spec.specs.Grid.{IsShape, blocks, extent_of}
use Rattle.zf_spec.specs.Codes.{rate, round, existing_values}
use Rattle.zf_base.proofs.Extents.{length-extent_of, extent_of_bounds}
use Rattle.zf_cached.{specs.State.{State}, specs.Changes.{flush}, specs.Placing.{Line, IsPlacing}}
use Rattle.zf_cached.{specs.Arrays.{rate_coding, array_format}, specs.Consistency.{IsConsistent}}
use Rattle.zf_cached.proofs.Placed.{flush-rounded}
use Rattle.zf_cached.proofs.Arrays.{existing_of-array, encoded-rate, rounded-rate}
use Rattle.zf_block.specs.WholePlanes.{rate_whole_from}
use Rattle.zf_bound.{specs.Errors.{AreWithin, AreClose, IsSmallEnough}, specs.Bounds.{error_of}}
use Rattle.zf_bound.proofs.Streams.{round_of_code}

module _ (line : Line) (may_hold : ℕ → ℕ → ℕ → Type 0) (placing : IsPlacing line may_hold) where
  pub flush_close : (w : Width) (budget : ℕ) (ns : List ℕ) (owned : ℕ → Bool) (s : State (List Bool)) (b m : ℕ) → IsShape ns → b < blocks ns
      → let format = array_format (rate_coding w budget) ns in let t = flush format s in let k = rate_whole_from w (length ns) (t.codes b) in
      IsConsistent line owned format s → s.dirty b ≡ true → AreWithin m (s.values b) → IsSmallEnough (bits w) m (error_of (length ns) k) → AreClose (error_of (length ns) k) (s.values b) (t.values b)
  flush_close w budget ns owned s b m shape below consistent dirty small room =
      let format = array_format (rate_coding w budget) ns in
      let t = flush format s in
      let es = extent_of ns b in
      let done = flush-rounded line may_hold placing owned format s b consistent dirty in
      let dims : length es ≡ length ns = length-extent_of ns b in
      let mine : owned b ≡ true = consistent.held_is_owned _ b (consistent.dirty_is_here b dirty) in
      let whole : existing_values es (s.values b) ≡ s.values b = sym (existing_of-array (rate_coding w budget) ns b (s.values b)) ∙ consistent.whole b mine in
      let code : t.codes b ≡ rate w budget es (s.values b) = done.code ∙ encoded-rate w budget ns b (s.values b) below in
      let values : t.values b ≡ round w budget es (s.values b) = done.values ∙ rounded-rate w budget ns b (s.values b) below in
      let same : error_of (length ns) (rate_whole_from w (length ns) (t.codes b)) ≡ error_of (length es) (rate_whole_from w (length es) (rate w budget es (s.values b))) =
      (λ i. error_of (sym dims i) (rate_whole_from w (sym dims i) (code i))) in
      let close = round_of_code w budget es (s.values b) m (few ns b shape) (bounds ns b below) small (subst (IsSmallEnough (bits w) m) same room) in
      let most = error_of (length es) (rate_whole_from w (length es) (rate w budget es (s.values b))) in
      subst (λ e. AreClose e (s.values b) (t.values b)) (sym same)
      (subst (λ (xs : List ℤ). AreClose most xs (t.values b)) whole (subst (λ (ys : List ℤ). AreClose most (existing_values es (s.values b)) ys) (sym values) close))
    where
      few : (ns : List ℕ) (b : ℕ) → IsShape ns → length (extent_of ns b) ≤ 4
      few ns b shape = let dims = length-extent_of ns b in omega (arith, dims, shape.four_at_most)

      bounds : (ns : List ℕ) (b : ℕ) → b < blocks ns → All (λ e. (1 ≤ e) × (e ≤ 4)) (extent_of ns b)
      bounds ns b below = All-from_recursion (λ e. (1 ≤ e) × (e ≤ 4)) (extent_of ns b) (extent_of_bounds ns b below)
