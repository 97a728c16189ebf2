-- How what is drawn from a source adds up over several calls.
use Rattle.std.proofs.Common.{◌≡◌, ℕ, true, List, [], ◌++◌}
use Rattle.zf_dev.specs.declared.source.Source.{Ghosts as Source}
use Rattle.zf_dev.{proofs.Taking.{Takes-none, Takes-append}, proofs.Giving.{Gives-none, Gives-append}}
use Rattle.zf_stream.specs.Drawing.{Draws, DrawsSome, IsSpent}

module _ {A : Type 0} {S : Source A} where
  -- nothing was drawn
  pub Draws-none : (a : A) → Draws S a a []
  Draws-none a = record { taken = Takes-none (S.contents a); given = Gives-none (S.gave a) }

  -- some bytes were drawn, and then some more
  pub Draws-append : {a b c : A} (first next : List ℕ) → Draws S a b first → Draws S b c next → Draws S a c (first ++ next)
  Draws-append {a} {b} {c} first next x y = record {
    taken = Takes-append (S.contents a) (S.contents b) (S.contents c) first next x.taken y.taken;
    given = Gives-append first next x.given y.given;
  }

  -- what was drawn is some
  pub DrawsSome-of : {a b : A} (bytes : List ℕ) → Draws S a b bytes → DrawsSome S a b
  DrawsSome-of {a} {b} bytes draws = record { taken = (bytes, draws.taken); given = (bytes, draws.given) }

  -- bytes were drawn, and then some that are not told
  pub DrawsSome-append : {a b c : A} (first : List ℕ) → Draws S a b first → DrawsSome S b c → DrawsSome S a c
  DrawsSome-append {a} {b} {c} first x y = record {
    taken = (first ++ y.taken.0, Takes-append (S.contents a) (S.contents b) (S.contents c) first y.taken.0 x.taken y.taken.1);
    given = (first ++ y.given.0, Gives-append first y.given.0 x.given y.given.1);
  }

  -- a source at its end is one behind a call that says so
  pub spent_still : {a b : A} → S.contents b ≡ S.contents a → (S.ended a ≡ true → S.ended b ≡ true) → IsSpent S a → IsSpent S b
  spent_still {a} {b} same still spent = record { at_end = rw same spent.at_end; told = still spent.told }
