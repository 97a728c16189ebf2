-- A view and the backing under it, seen as one: when a call may be made, and what it makes of both.
use Rattle.std.specs.Prelude.{◌≡◌, ℕ, ℤ}
use Rattle.std.specs.Int.{Width}
use Rattle.zf_base.specs.Positions.{IsPosition}
use Rattle.zf_base.specs.declared.backing.Reading.{Ghosts as Reading}
use Rattle.zf_base.specs.declared.position.Pos.{Pos}
use Rattle.zf_cached.specs.Acts.{Act}
use Rattle.zf_cached.specs.Views.{acted}
use Rattle.zf_cache.specs.Backed.{StepsTo}
use Rattle.zf_cache.specs.Standing.{Fits}
use Rattle.zf_private.specs.Standing.{Held, Own, block_at, state, IsOver, HasPlaces, IsSameView, IsWhole}

module _ {B X : Type 0} (R : Reading B X) (value : X → ℤ) where
  -- the view's cache fits the backing, which has the array's blocks
  pub record SitsOn (v : Held X) (back : B) : Type 0 where
    pub fits : Fits value v.cache (R.format back) (R.codes back)
    pub blocks : IsOver v (R.format back)

  -- so it is, the places of its blocks are the array's, and position p lies in a block of its own
  pub record SitsOnAt (v : Held X) (back : B) (p : Pos) : Type 0 where
    pub fits : Fits value v.cache (R.format back) (R.codes back)
    pub blocks : IsOver v (R.format back)
    pub places : HasPlaces v (R.format back)
    pub position : IsPosition v.shape p
    pub owned : Own v (block_at v p)

  -- this act is done: it is a step of the view's state, the codes of blocks that are not its own stay, and it
  -- is the same view of its blocks
  pub record DoesAct (w : Width) (d : ℕ) (act : Act) (v : Held X) (back : B) (new : Held X)
      (now : B) : Type 0 where
    pub step : StepsTo R (λ (u : Held X) f k. state value u f k) (λ (u : Held X) f k. Fits value u.cache f k)
        (λ f s. acted w f s act) v back new now
    pub others : (b : ℕ) → (Own v b → ⊥) → R.codes now b ≡ R.codes back b
    pub same : IsSameView v new
    pub whole : IsWhole d new
