-- A read-only array after a call as a session.
use Rattle.std.proofs.Common.{◌≡◌, refl, ℕ}
use Rattle.zf_const.specs.Standing as read
use Rattle.zf_const.specs.Standing.{Held}
use Rattle.zf_run.specs.Sessions.{stream_of}

-- the array after a touch has the same header and the same codes
pub stream_after : (a : Held) (b : ℕ) → stream_of (read.touched a b) ≡ stream_of a
unfolding read.touched
stream_after a b = refl

-- the same header and the same codes, and a reference that is the same
abbrev pub with_name : {K N : Type 0} → N → K → K × N
with_name n k = (k, n)

pub same_look : {N : Type 0} (n : N) (a b : Held) → b.header ≡ a.header → b.codes ≡ a.codes → with_name n (stream_of b) ≡ with_name n (stream_of a)
same_look n a b head codes = λ i. ((head i, codes i), n)
