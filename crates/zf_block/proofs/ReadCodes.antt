-- What reading a code is, from what was read of it.
use Rattle.std.proofs.Common.{rules, ◌≡◌, sym, ap, ◌∙◌, ℕ, ◌+◌, ◌-◌, ◌^◌, ◌<◌, ◌≤◌, le-ltb, lt-ltb, ℤ, Bool, List, ◌++◌, false, length, take, drop, drop_at, replicate, arith}
use Rattle.std.{proofs.lemmas.List.{length-take, length-take-le, length-append, take_all}, specs.Int.{Width}}
use Rattle.std.{proofs.Math.Nat.{mul-le-mul_left, mul-le-mul_right}, proofs.Math.Seq.{take-append-add}}
use mir.Val.{bits}
use Rattle.zf_spec.{specs.Numbers.{field, number}, specs.Lorenzo.{unlorenzo}, specs.Lift.{unlift}}
use Rattle.zf_spec.{specs.Planes.{code}, specs.ReadPlanes.{planes_in}, specs.Kept.{kept_planes}}
use Rattle.zf_spec.specs.Codes.{count_bits, coefficients_of, read_rev, read_rate, read_prec}
use Rattle.zf_spec.{proofs.Fields.{length-field}, proofs.Full.{length-planes_in, planes_in-length}}
use Rattle.zf_spec.proofs.PlaneCode.{length-code-le}
use Rattle.zf_bits.{specs.Reader.{Reader, rest, Reads}, proofs.Reading.{Reads-append, Reads-same}}
use Rattle.zf_planes.specs.Decoding.{coded, coded_bits}
use Rattle.zf_block.{specs.Block.{AreAbove}, specs.Decoding.{PassesCode, LacksBits}}
use Rattle.zf_block.specs.ReadBlocks.{ReadsRev, LacksRev, ReadsRate, ReadsPrec, LacksPrec, uncut_len, rev_planes, rev_len, prec_planes, prec_len}
use Rattle.zf_block.proofs.Kept.{kept_planes-whole}

-- ---- a reader that moves

-- what is left behind a read
pub rest-Reads : {a b : Reader} (n : ℕ) (bits : List Bool) → length bits ≡ n → Reads a b bits → rest b ≡ drop n (rest a)
rest-Reads {a} {b} n bits long reads = sym (ap (drop n) reads.next ∙ drop_at bits (rest b) n long)

-- ---- a reversible code

-- the block at all places that the planes of a reversible code stand for
abbrev pub rev_block : Width → ℕ → List Bool → List ℤ
rev_block w d s = unlorenzo w d (coefficients_of w d (rev_planes w (4 ^ d) s))

-- the code was read
pub ReadsRev-planes : (w : Width) (d : ℕ) (old new : Reader) → PassesCode (rev_len w (4 ^ d) (rest old)) old new → ReadsRev w d old new (rev_block w d (rest old))
unfolding read_rev rev_len rev_planes
ReadsRev-planes w d old new passes = search (rules, length-take, le-ltb)

-- the bits ended before
pub LacksRev-short : (w : Width) (d : ℕ) (old new : Reader) → LacksBits (rev_len w (4 ^ d) (rest old)) old new → LacksRev w d old
unfolding read_rev rev_len rev_planes
LacksRev-short w d old new lacks = search (rules, lt-ltb)

-- ---- planes without a budget

-- one read, and then another
pub Reads-part : {a b c : Reader} (prefix : List Bool) (k : ℕ) → Reads a b prefix → Reads b c (take k (rest b)) → Reads a c (take (length prefix + k) (rest a))
Reads-part {a} {b} {c} prefix k first second =
    Reads-same (Reads-append first second) (sym (ap (take (length prefix + k)) first.next ∙ take-append-add prefix (rest b) k))

-- a code of so many bits was read in part, and the rest of it was passed
pub passes_rest : (bits used : ℕ) (old middle new : Reader) → bits ≤ length (rest old) → used ≤ bits → Reads old middle (take used (rest old)) → Reads middle new (take (bits - used) (rest middle))
    → PassesCode bits old new
passes_rest bits used old middle new enough less first second =
    let all : length (take used (rest old)) + (bits - used) ≡ bits = omega (arith, length-take used (rest old)) in
    record { whole = enough; passed = rw all at (Reads-part (take used (rest old)) (bits - used) first second) }

-- the code of as many planes as there can be is short
length-code-planes_in : (prec size : ℕ) (s : List Bool) → size ≤ 256 → prec ≤ 64 → length (code (planes_in prec size s)) ≤ 16640
length-code-planes_in prec size s small few =
    let bound = length-code-le size (planes_in prec size s) (planes_in-length prec size s) in
    let count = length-planes_in prec size s in search (rules, mul-le-mul_right, mul-le-mul_left)

-- with the greatest budget all bits that are left count
module _ (prec size : ℕ) (old : Reader) (small : size ≤ 256) (few : prec ≤ 64) (short : length (rest old) ≤ 18446744073709551615) where
  abbrev s : List Bool
  s = rest old

  coded-all : coded 18446744073709551615 prec size s ≡ planes_in prec size s
  coded-all = ap (planes_in prec size) (take_all 18446744073709551615 s short)

  coded_bits-all : coded_bits 18446744073709551615 prec size s ≡ uncut_len prec size s
  coded_bits-all = search (rules, length-code-planes_in, coded-all)

  kept_planes-all : kept_planes 18446744073709551615 (coded 18446744073709551615 prec size s) ≡ planes_in prec size s
  kept_planes-all = search (rules, length-code-planes_in, coded-all, kept_planes-whole)

  -- what was read with the greatest budget is the whole code
  module _ (new : Reader) where
    pub uncut_lacks : length s < coded_bits 18446744073709551615 prec size s → new ≡ old → LacksBits (uncut_len prec size s) old new
    uncut_lacks less unread = record { short = omega (arith, coded_bits-all, less); unread = unread }

    pub uncut_read : (count n : ℕ) (held : List (List Bool)) → ¬ (length s < coded_bits 18446744073709551615 prec size s) → count ≡ coded_bits 18446744073709551615 prec size s → Reads old new (take count s)
        → held ≡ kept_planes 18446744073709551615 (coded 18446744073709551615 prec size s) ++ replicate n (replicate size false) → PassesCode (uncut_len prec size s) old new × AreAbove size (planes_in prec size s) held
    uncut_read count n held enough is_all reads is = (search (rules, coded_bits-all), (n, rw kept_planes-all at is))

-- a reader of these bits at this place
abbrev pub reader_at : List Bool → ℕ → Reader
reader_at bits at = record { all = bits; at = at }

-- ---- a reversible code that is read in parts: the count of planes, and the code behind it

module _ (w : Width) (size p : ℕ) (old middle : Reader) (value : p ≡ number (take (count_bits w) (rest old)) + 1) (reads : Reads old middle (field (count_bits w) (p - 1))) where
  abbrev count : List Bool
  count = field (count_bits w) (p - 1)

  long : length count ≡ count_bits w
  long = length-field (count_bits w) (p - 1)

  -- its planes are those of the bits behind the count
  pub planes-behind_count : planes_in p size (rest middle) ≡ rev_planes w size (rest old)
  unfolding rev_planes
  planes-behind_count = search (rules, rest-Reads, long)

  len-behind_count : count_bits w + length (code (planes_in p size (rest middle))) ≡ rev_len w size (rest old)
  unfolding rev_len
  len-behind_count = omega (arith, ap (λ ps. length (code ps)) planes-behind_count)

  length-behind_count : count_bits w + length (rest middle) ≡ length (rest old)
  length-behind_count = omega (arith, ap length reads.next, length-append count (rest middle), long)

  -- the count and the code were passed
  pub passes-behind_count : (new : Reader) → PassesCode (uncut_len p size (rest middle)) middle new → PassesCode (rev_len w size (rest old)) old new
  passes-behind_count new passes = search (rules, long, len-behind_count, length-behind_count, Reads-part)

  -- and what is held above
  pub held-behind_count : (new : Reader) (held : List (List Bool)) → PassesCode (uncut_len p size (rest middle)) middle new × AreAbove size (planes_in p size (rest middle)) held
      → PassesCode (rev_len w size (rest old)) old new × AreAbove size (rev_planes w size (rest old)) held
  held-behind_count new held behind = (passes-behind_count new behind.0, rw planes-behind_count at behind.1)

  -- the code is missing behind the count, and the reader went back to where it stood
  pub lacks-behind_count : (a b : Reader) (start : ℕ) → LacksBits (uncut_len p size (rest middle)) middle a → b ≡ reader_at a.all start → start ≡ old.at → LacksBits (rev_len w size (rest old)) old b
  lacks-behind_count a b start lacks back at = search (rules, len-behind_count, length-behind_count)

-- where the bits of the count are missing, those of the code are
pub lacks-count : (w : Width) (size : ℕ) (old new : Reader) → LacksBits (count_bits w) old new → LacksBits (rev_len w size (rest old)) old new
unfolding rev_len
lacks-count w size old new lacks = record { short = omega (arith, lacks.short); unread = lacks.unread }

-- ---- a code of a fixed precision

-- the block at all places that its planes stand for
abbrev pub prec_block : Width → ℕ → ℕ → List Bool → List ℤ
prec_block w p d s = unlift w d (coefficients_of w d (prec_planes w p (4 ^ d) s))

-- the code was read
pub ReadsPrec-planes : (w : Width) (d p : ℕ) (old new : Reader) → PassesCode (prec_len w p (4 ^ d) (rest old)) old new → ReadsPrec w d p old new (prec_block w p d (rest old))
unfolding read_prec prec_len prec_planes
ReadsPrec-planes w d p old new passes = search (rules, length-take, le-ltb)

-- the bits ended before
pub LacksPrec-short : (w : Width) (d p : ℕ) (old new : Reader) → LacksBits (prec_len w p (4 ^ d) (rest old)) old new → LacksPrec w d p old
unfolding read_prec prec_len prec_planes
LacksPrec-short w d p old new lacks = search (rules, lt-ltb)

-- ---- a code of a fixed rate

-- the code was read
pub ReadsRate-planes : (w : Width) (d budget : ℕ) (old new : Reader) → budget ≤ length (rest old) → Reads old new (take budget (rest old))
    → ReadsRate w d budget old new (unlift w d (coefficients_of w d (kept_planes budget (planes_in (bits w) (4 ^ d) (take budget (rest old))))))
unfolding read_rate
ReadsRate-planes w d budget old new enough reads = search (rules, length-take-le)
