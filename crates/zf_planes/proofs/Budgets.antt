-- A list that is written in parts, as far as a budget of bits reaches.
use Rattle.std.proofs.Common.{rules, ◌≡◌, ℕ, suc, zero, ◌+◌, ◌-◌, ◌<◌, ◌≤◌, min, Bool, List, [], ◌∷◌, ◌++◌, length, take, refl, sym, ap, subst, arith, append_assoc, length-append}
use Rattle.std.proofs.lemmas.List.{length-take, append-nil, take_all, nil_from_length}
use Rattle.zf_spec.{specs.Numbers.{field}, proofs.Fields.{length-field}}
use Rattle.zf_bits.specs.Writer.{Writer, Appends}
use Rattle.zf_planes.specs.Writes.{Remains, Writes}

pub take_append : {A : Type 0} (k : ℕ) (xs ys : List A) → take k (xs ++ ys) ≡ take k xs ++ take (k - length xs) ys
take_append {A} zero [] ys = refl
take_append {A} (suc k) [] ys = let all : suc k - 0 ≡ suc k = omega arith in rw all refl
take_append {A} zero (x ∷ xs) ys = let none : zero - suc (length xs) ≡ 0 = omega arith in rw none refl
take_append {A} (suc k) (x ∷ xs) ys =
    let less : suc k - suc (length xs) ≡ k - length xs = omega arith in
    rw less (ap (λ (zs : List A). x ∷ zs) (take_append k xs ys))

pub Remains-start : (w : Writer) (budget : ℕ) (whole : List Bool) → min budget (length whole) ≤ w.room → Remains w w budget budget whole whole
Remains-start w budget whole fits = record { bits = refl; spent = refl; fits = fits; room = omega arith; within = omega arith }

-- behind bits that were put together
pub Remains-behind : (w : Writer) (budget len bits : ℕ) (code : List Bool) → min budget (len + length code) ≤ w.room → Remains w w budget budget (field len bits ++ code) (field len bits ++ code)
Remains-behind w budget len bits code fits = Remains-start w budget (field len bits ++ code) (omega (arith, fits, length-append (field len bits) code, length-field len bits))

-- the same rest by another name
pub Remains-same : {old now : Writer} {budget left : ℕ} {whole : List Bool} {rest rest' : List Bool} → Remains old now budget left whole rest → rest ≡ rest' → Remains old now budget left whole rest'
Remains-same {old} {now} {budget} {left} {whole} remains same = let P : List Bool → Type 0 = λ xs. Remains old now budget left whole xs in subst P same remains

-- there is room for the next part
pub Remains-fits : {old now : Writer} {budget left : ℕ} {whole : List Bool} (more rest : List Bool) → Remains old now budget left whole (more ++ rest) → min left (length more) ≤ now.room
Remains-fits more rest remains = omega (arith, remains.fits, length-append more rest)

-- the same of the bits of a number
pub room_for : {old now : Writer} {budget left : ℕ} {whole : List Bool} (len bits : ℕ) (rest : List Bool) → Remains old now budget left whole (field len bits ++ rest) → min left len ≤ now.room
room_for len bits rest remains = omega (arith, Remains-fits (field len bits) rest remains, length-field len bits)

-- the next part is written
pub Remains-more : {old now new : Writer} {budget left : ℕ} {whole : List Bool} (more rest : List Bool) → Remains old now budget left whole (more ++ rest) → Appends now new (take left more)
    → Remains old new budget (left - length more) whole rest
Remains-more {old} {now} {new} {budget} {left} {whole} more rest remains appends =
    let long = length-append more rest in
    let written = length-take left more in
    search (rules, append_assoc, take_append)

-- the next part is the bits of a number
pub Remains-part : {old now new : Writer} {budget left after : ℕ} {whole : List Bool} (len bits : ℕ) (rest : List Bool) → Remains old now budget left whole (field len bits ++ rest) → Appends now new (take left (field len bits)) → after ≡ left - len
    → Remains old new budget after whole rest
Remains-part {old} {now} {new} {budget} {left} {after} {whole} len bits rest remains appends is =
    let spent : left - length (field len bits) ≡ after = omega (arith, length-field len bits, is) in
    rw spent at (Remains-more (field len bits) rest remains appends)

-- the next bit is written
pub Remains-bit : {old now new : Writer} {budget left : ℕ} {whole : List Bool} (b : Bool) (rest : List Bool) → 0 < left → Remains old now budget left whole (b ∷ rest) → Appends now new (b ∷ [])
    → Remains old new budget (left - 1) whole rest
Remains-bit {old} {now} {new} {budget} {left} {whole} b rest some remains appends = Remains-more (b ∷ []) rest remains (rw (take_all left (b ∷ []) some) appends)

-- nothing is left of the budget, or of the list
pub Remains-end : {old now : Writer} {budget left : ℕ} {whole rest : List Bool} → Remains old now budget left whole rest → min left (length rest) ≡ 0 → Appends old now (take budget whole)
Remains-end {old} {now} {budget} {left} {whole} {rest} remains none = search (rules, append-nil, nil_from_length, length-take)

-- all that remains is written
pub Remains-all : {old now new : Writer} {budget left after : ℕ} {whole : List Bool} (rest : List Bool) → Remains old now budget left whole rest → Writes left after now new rest → Writes budget after old new whole
Remains-all rest remains writes =
    let ended = Remains-more rest [] (Remains-same remains (sym (append-nil rest))) writes.bits in
    record { bits = Remains-end ended (omega arith); left = omega (arith, writes.left, remains.spent) }

-- and it is the bits of a number
pub Remains-last : {old now new : Writer} {budget left after : ℕ} {whole : List Bool} (len bits : ℕ) → Remains old now budget left whole (field len bits) → Appends now new (take left (field len bits)) → after ≡ left - len
    → Writes budget after old new whole
Remains-last len bits remains appends is = Remains-all _ remains (record { bits = appends; left = omega (arith, length-field len bits) })

-- a part of the rest is written but for its end
pub Remains-through : {old now new : Writer} {budget left after : ℕ} {whole : List Bool} (code rest more : List Bool) → Remains old now budget left whole (code ++ more) → Remains now new left after code rest
    → Remains old new budget after whole (rest ++ more)
Remains-through {old} {now} {new} {budget} {left} {after} {whole} code rest more outer inner =
    let long = length-append code more in
    let short = length-append rest more in
    search (rules, take_append, append_assoc)
