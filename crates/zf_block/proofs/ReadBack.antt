-- What is read back from the codes of a block.
use Rattle.std.proofs.Common.{rules, ◌≡◌, sym, ap, ◌∙◌, ℕ, ◌^◌, Bool, ℤ, pos, Option, Some, List, ◌++◌, length, take, ◌-◌, take_at, ext_get_or}
use Rattle.std.{proofs.lemmas.Option.{some_pair_parts}, specs.Int.{Width}}
use Rattle.zf_spec.{specs.Grid.{fours}, proofs.Padding.{length-existing_values, get_or-existing_inside}}
use Rattle.zf_spec.{specs.Codes.{rate, existing_values}, proofs.BlockReading.{length-rate}}
use Rattle.zf_spec.proofs.Raster.{length-fours}
use Rattle.zf_pad.proofs.Existing.{inside_fours}
use Rattle.zf_bits.{specs.Reader.{Reader, rest, Reads}, proofs.Reading.{Reads-same}}

-- where it is known what a code is read as, and how many bits that takes
pub read_back : (read : List Bool → Option (List ℤ × ℕ)) (old new : Reader) {code : List Bool} (more : List Bool) {values seen : List ℤ} → rest old ≡ code ++ more → read (code ++ more) ≡ Some (values, length code)
    → read (rest old) ≡ Some (seen, new.at - old.at) → Reads old new (take (new.at - old.at) (rest old)) → (seen ≡ values) × Reads old new code
read_back read old new {code} more {values} {seen} prefix known is reads =
    let n = new.at - old.at in
    let parts = some_pair_parts seen values n (length code) (sym is ∙ ap read prefix ∙ known) in
    (parts.0, Reads-same reads (ap (take n) prefix ∙ take_at code more n (sym parts.1)))

-- the bits of a code at a fixed rate
pub rate_bits : (w : Width) (budget : ℕ) (es : List ℕ) (block : List ℤ) (more s : List Bool) → s ≡ rate w budget es block ++ more → take budget s ≡ rate w budget es block
rate_bits w budget es block more s prefix = ap (take budget) prefix ∙ take_at (rate w budget es block) more budget (length-rate w budget es block)

-- ---- whole blocks

pub existing_values-fours : (d : ℕ) (block : List ℤ) → length block ≡ 4 ^ d → existing_values (fours d) block ≡ block
existing_values-fours d block long =
    let axes = length-fours d in
    let count : length (existing_values (fours d) block) ≡ 4 ^ d = length-existing_values (fours d) block ∙ ap (λ k. 4 ^ k) axes in
    ext_get_or (pos 0) (existing_values (fours d) block) block (count ∙ sym long)
    (search (rules, length-existing_values, get_or-existing_inside, inside_fours))
