use Rattle.std.proofs.Common.{◌≡◌, ℕ, ◌-◌, ◌%◌, ◌≤◌, length, ap, length-append, arith, rules}
use Rattle.zf_spec.{specs.Numbers.{field}, proofs.Fields.{length-field}}
use Rattle.zf_bits.specs.Reader.{Reader, rest, Reads}
use Rattle.zf_parse.proofs.Fill.{fill_one, fill_more, fill_good}
use Rattle.zf_parse.proofs.reading.check_fill.Goals as goal

-- what was read was there
within : (old new : Reader) (n v : ℕ) → Reads old new (field n v) → n ≤ length (rest old)
within old new n v read = omega (arith, ap length read.next, length-append (field n v) (rest new), length-field n v)

-- the fill behind the bits before the place
fill_is : (at place : ℕ) → at ≡ place → (64 - at % 64) % 64 ≡ (64 - place % 64) % 64
fill_is at place same = ap (λ k. (64 - k % 64) % 64) same

pub returns-then-number-ne0 : goal.returns-then-number-ne0
returns-then-number-ne0 c = search (rules, fill_one, fill_is, within)

pub returns-then-left-fill : goal.returns-then-left-fill
returns-then-left-fill c = search (rules, fill_more, fill_is)

pub returns : goal.returns
returns c = search (rules, within, fill_good, fill_is)
