-- The codes of a slab that were read so far, and the values of their blocks.
use Rattle.std.proofs.Common.{◌≡◌, ℕ, zero, suc, ◌+◌, ◌-◌, ◌*◌, ◌^◌, ◌<◌, ◌≤◌, ℤ, Bool, List, [], ◌∷◌, ◌++◌, Ok, length, length-append, sym, ap, subst, ◌∙◌, arith}
use Rattle.zf_spec.{specs.Grid.{blocks, product, extent_of}, specs.Codes.{existing_values}}
use Rattle.zf_bits.specs.Reader.{Reader, Reads, rest}
use Rattle.zf_pad.{specs.Stored.{HasWholeBlocks, AppendsBlock}, proofs.Stored.{Stores, stored_before, stored_within, all_stored, stores_more}, proofs.Appended.{whole_size}}
use Rattle.std.{specs.Int.{Width}, proofs.Math.Nat.{mul-add}}
use Rattle.zf_base.{specs.Widths.{width_of}, proofs.Extents.{length-extent_of}}
use Rattle.zf_header.specs.declared.header.Header.{Header}
use Rattle.zf_dev.specs.declared.source.Source.{Ghosts as Source}
use Rattle.zf_parse.{specs.Parsing.{read_code, read_codes}, specs.ReadStreams.{ReadsCode}, proofs.Joining.{read_codes-next, rest_behind}}
use Rattle.zf_stream.{specs.Restoring.{ReadsStored, ReadsRun, stream_from}, specs.Windows.{Window, left_of, Refills}}
use Rattle.zf_stream.proofs.Windows.{codes_refilled}

-- of these bits the codes of the first blocks were read, and their values are stored
pub record HasRead (h : Header) (b : ℕ) (s left : List Bool) (stored : List ℤ) : Type 0 where
  pub found : List (List ℤ)
  pub count : length found ≡ b
  pub codes : read_codes h 0 b s ≡ Ok (found, left)
  pub stores : Stores h.shape found stored

-- what was read and what is left are what was left
pub place_behind : (old new : Reader) (bits : List Bool) → Reads old new bits → new.at + length (rest new) ≡ old.at + length (rest old)
place_behind old new bits read = omega (arith, read.place, ap length read.next, length-append bits (rest new))

-- a code that was read, and whose block was stored
pub stored_code : (h : Header) (b : ℕ) (w : Width) (old new : Reader) (block values before now : List ℤ) → w ≡ width_of h.ty → ReadsCode w h.mode (length h.shape) old new block
    → values ≡ block → AppendsBlock (extent_of h.shape b) values before now → ReadsStored h b old new before now
stored_code h b w old new block values before now same reads is appended = record {
  block = block;
  code = ap (λ v. read_code v h.mode (extent_of h.shape b) (rest old)) (sym same) ∙ reads.code (extent_of h.shape b) (length-extent_of h.shape b);
  passed = rest_behind old new _ reads.passed;
  appended = subst (λ (vs : List ℤ). AppendsBlock (extent_of h.shape b) vs before now) is appended;
}

-- one code more
pub read_more : (h : Header) (b : ℕ) (s : List Bool) (old new : Reader) (before now : List ℤ) → ReadsStored h b old new before now → HasRead h b s (rest old) before → HasRead h (b + 1) s (rest new) now
read_more h b s old new before now read so_far =
    let block = existing_values (extent_of h.shape b) read.block in
    record {
      found = so_far.found ++ block ∷ [];
      count = length-append so_far.found (block ∷ []) ∙ omega (arith, so_far.count);
      codes = read_codes-next h b (new.at - old.at) s (rest old) so_far.found block (rest new) so_far.codes read.code read.passed;
      stores = stores_more h.shape so_far.found b read.block before now so_far.count so_far.stores read.appended;
    }

-- some more
pub run_more : (h : Header) (b n : ℕ) (s : List Bool) (old new : Reader) (before now : List ℤ) → ReadsRun h b n old new before now → HasRead h b s (rest old) before → HasRead h (b + n) s (rest new) now
run_more h b zero s old new before now run so_far = let is : b + 0 ≡ b = omega arith in rw (is, run.0, run.1) so_far
run_more h b (suc n) s old new before now run so_far =
    let is : b + suc n ≡ b + n + 1 = omega arith in
    rw is (read_more h (b + n) s run.0 new run.1.0 now run.1.1.1 (run_more h b n s old run.0 before run.1.0 run.1.1.0 so_far))

-- or none
pub run_of_none : (h : Header) (b n : ℕ) (old new : Reader) (before now : List ℤ) → n ≤ 0 → ReadsRun h b n old new before now → (new ≡ old) × (now ≡ before)
run_of_none h b zero old new before now few run = run
run_of_none h b (suc n) old new before now few run = absurd (omega (arith, few))

pub run_none : (h : Header) (b n : ℕ) (s : List Bool) (old new : Reader) (before now : List ℤ) → n ≤ 0 → ReadsRun h b n old new before now → HasRead h b s (rest old) before → HasRead h b s (rest new) now
run_none h b n s old new before now few run so_far = let none = run_of_none h b n old new before now few run in rw (none.0, none.1) so_far

-- the source gave more bits
pub read_refilled : (h : Header) (b : ℕ) (w : Window) (bytes : List ℕ) (stored : List ℤ) {A : Type 0} {S : Source A} {src now : A} {u v : Window} → HasRead h b (stream_from w bytes) (left_of u) stored → (refill : Refills S src now u v)
    → HasRead h b (stream_from w (bytes ++ refill.bytes)) (left_of v) stored
read_refilled h b w bytes stored {A} {S} {src} {now} {u} {v} so_far refill = record {
  found = so_far.found;
  count = so_far.count;
  codes = codes_refilled h b w bytes so_far.found so_far.codes refill;
  stores = so_far.stores;
}

-- there is room for one block more
pub room_for_one : (h : Header) (b count cap : ℕ) (s left : List Bool) (stored : List ℤ) → HasRead h b s left stored → b < blocks h.shape → count ≡ length stored → product h.shape ≤ cap → count + product (extent_of h.shape b) ≤ cap
room_for_one h b count cap s left stored so_far lt is room =
    let ns = h.shape in
    omega (arith, is, so_far.stores.long, ap (stored_before ns) so_far.count, stored_within ns b (blocks ns) lt, all_stored ns (omega (arith, lt)), room)

-- where no size cuts a block, each has as many values
pub whole_before : (ns : List ℕ) (b : ℕ) → HasWholeBlocks ns → b ≤ blocks ns → stored_before ns b ≡ 4 ^ length ns * b
whole_before ns zero whole within = omega arith
whole_before ns (suc b) whole within =
    omega (arith, whole_before ns b whole (omega (arith, within)), whole_size ns b whole (omega (arith, within)))

-- and room for all that are left
pub room_for_rest : (h : Header) (b count cap : ℕ) (s left : List Bool) (stored : List ℤ) → HasRead h b s left stored → HasWholeBlocks h.shape → b < blocks h.shape → count ≡ length stored → product h.shape ≤ cap
    → count + 4 ^ length h.shape * (blocks h.shape - b) ≤ cap
room_for_rest h b count cap s left stored so_far whole lt is room =
    let ns = h.shape in
    let size = 4 ^ length ns in
    let sum : b + (blocks ns - b) ≡ blocks ns = omega (arith, lt) in
    let all : size * b + size * (blocks ns - b) ≡ size * blocks ns = sym (mul-add size b (blocks ns - b)) ∙ ap (λ k. size * k) sum in
    omega (
      arith,
      is,
      so_far.stores.long,
      ap (stored_before ns) so_far.count,
      whole_before ns b whole (omega (arith, lt)),
      whole_before ns (blocks ns) whole (omega arith),
      all_stored ns (omega (arith, lt)),
      all,
      room,
    )
