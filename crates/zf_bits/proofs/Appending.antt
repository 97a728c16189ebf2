-- One append after another.
use Rattle.std.proofs.Common.{◌≡◌, ◌+◌, Bool, List, ◌++◌, length, ap, subst, ◌∙◌, arith, append_assoc, length-append}
use Rattle.zf_bits.specs.Writer.{Writer, Appends}

pub Appends-append : {a b c : Writer} {xs ys : List Bool} → Appends a b xs → Appends b c ys → Appends a c (xs ++ ys)
Appends-append {a} {b} {c} {xs} {ys} first second =
    grind (arith, append_assoc a.bits xs ys, length-append xs ys)

pub Appends-same : {a b : Writer} {xs ys : List Bool} → Appends a b xs → xs ≡ ys → Appends a b ys
Appends-same {a} {b} appends e = let P : List Bool → Type 0 = λ bs. Appends a b bs in subst P e appends

-- how long the list has become
pub length-Appends : {a b : Writer} {xs : List Bool} → Appends a b xs → length b.bits ≡ length a.bits + length xs
length-Appends {a} {b} {xs} appends = ap length appends.bits ∙ length-append a.bits xs
