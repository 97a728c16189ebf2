-- The mode that fields say.
use Rattle.std.proofs.Common.{rules, ◌≡◌, ℕ, ◌+◌, ◌-◌, ◌<◌, ◌≤◌, ◌^◌, Bool, true, false, ◌&&◌, nat_le, List, refl, le-leb, arith}
use Rattle.std.proofs.lemmas.Bool.{cases_lt, ne_eqb, lt-leb, and_from, and_left, and_parts, leb-true}
use Rattle.zf_spec.specs.Stream.{mode_number}
use Rattle.zf_header.{specs.declared.header.Mode.{Mode}, proofs.Parts.{short_number, long_number}}
use Rattle.zf_header.specs.declared.header.Mode.TheVariants.{Reversible, Rate, Precision}
use Rattle.zf_header.{specs.HeaderBits.{coding, IsMode, IsRate, block_bits}, proofs.Bits.{number_at_below}}
use Rattle.zf_header.specs.HeaderFields.{mode_in, long_rate_in, is_long_rate, mode_said, header_in}

-- a mode of a fixed rate is that of its bits a block
pub mode_is_rate : (m : Mode) → IsRate m → m ≡ Rate (block_bits m)
mode_is_rate m is = grind arith

pub rate_is_some : (m : Mode) → IsRate m → (1 ≤ block_bits m) × (block_bits m ≤ 32768)
rate_is_some m is = rw (mode_is_rate m is) at is

-- the test for the numbers of fixed precisions
abbrev pub is_precision : ℕ → Bool
is_precision m = nat_le 2048 m && nat_le m 2175

below_precisions : (m : ℕ) → m < 2048 → is_precision m ≡ false
below_precisions m lt = and_left _ _ (lt-leb 2048 m lt)

pub mode_said-short : (m l : ℕ) → m ≤ 2047 → mode_said m l ≡ Rate (m + 1)
mode_said-short m l few = rw (ne_eqb m 2176 (λ e. omega arith), below_precisions m (omega arith), ne_eqb m 4095 (λ e. omega arith)) refl

pub mode_said-precision : (m l : ℕ) → 2048 ≤ m → m ≤ 2175 → mode_said m l ≡ Precision (m - 2047)
mode_said-precision m l low high = rw (ne_eqb m 2176 (λ e. omega arith), and_from _ _ (le-leb 2048 m low) (le-leb m 2175 high)) refl

pub mode_said-reversible : (m l : ℕ) → m ≡ 2176 → mode_said m l ≡ Reversible
mode_said-reversible m l is = rw is refl

pub mode_said-long : (m l : ℕ) → m ≡ 4095 → mode_said m l ≡ Rate l
mode_said-long m l is = rw is refl

-- a mode that was read can be stated
said_is_mode : (m l : ℕ) → m < 2 ^ 12 → 1 ≤ l → l ≤ 32768 → IsMode (mode_said m l)
said_is_mode m l small some most = search (rules, and_parts, leb-true)

pub header_in-mode : (s : List Bool) → IsMode (header_in s).mode
header_in-mode s = said_is_mode (mode_in s) (long_rate_in s) (number_at_below 84 12 s) (omega arith) (omega (arith, number_at_below 96 15 s))

-- the mode that a header says is read again
pub mode_again : (s : List Bool) (mode : Mode) → IsMode mode → mode_in s ≡ mode_number (coding mode) → ((b : ℕ) → mode ≡ Rate b → 2048 < b → (long_rate_in s ≡ b) × (is_long_rate s ≡ true)) → mode_said (mode_in s) (long_rate_in s) ≡ mode
mode_again s mode has is long_is = search (rules, cases_lt, mode_said-reversible, mode_said-precision, mode_said-long, long_number, short_number, mode_said-short)
