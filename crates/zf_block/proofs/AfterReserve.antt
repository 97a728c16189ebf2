-- Room that was asked for before.
use Rattle.std.proofs.Common.{◌≡◌, ◌≤◌, List, Bool, ◌++◌, ap, ◌∙◌, arith}
use Rattle.zf_bits.specs.Writer.{Writer, Appends}

-- it changes nothing of what is appended
pub after_reserve : {old reserved new : Writer} {more : List Bool} → reserved.bits ≡ old.bits → old.room ≤ reserved.room → Appends reserved new more → Appends old new more
after_reserve {old} {reserved} {new} {more} bits room appends = record { bits = appends.bits ∙ ap (λ (bs : List Bool). bs ++ more) bits; room = omega (arith, appends.room) }
