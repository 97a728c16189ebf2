-- What a stream says, step by step: words for proofs, and the definitions in them.
use Rattle.std.proofs.Common.{◌≡◌, ◌⊎◌, inl, inr, refl, ap, ◌∙◌, ℕ, suc, ◌-◌, Bool, ℤ, Option, Some, None, Result, Ok, Err, List, [], ◌∷◌, map, length, take, drop, rules}
use Rattle.std.specs.Result.{result_map_both}
use Rattle.zf_spec.{specs.Grid.{blocks, extent_of}, specs.Stream.{to_bits}}
use Rattle.zf_base.specs.Widths.{width_of}
use Rattle.zf_header.{specs.declared.header.Header.{Header}, specs.declared.header.HeaderFault.{HeaderFault}}
use Rattle.zf_header.specs.HeaderFaults.{header_fault}
use Rattle.zf_parse.{specs.declared.fault.StreamFault.{StreamFault}, specs.Raw.{raw_bytes}}
use Rattle.zf_parse.specs.Parsing.{read_code, coded_blocks, read_codes, values_of_blocks, fill_answer, header_of, code_bits, Said, said_with, said_behind, parse, restore_answer}
use Rattle.zf_parse.specs.declared.fault.StreamFault.TheVariants as faults

-- blocks with their codes, and the bits behind them
abbrev pub Coded : Type 0
Coded = List (List Bool × List ℤ) × List Bool

abbrev pub codes_in : Coded → List (List Bool)
codes_in found = map (λ c. c.0) found.0

-- the blocks alone, and the bits behind
abbrev pub blocks_in : Coded → List (List ℤ) × List Bool
blocks_in found = (map (λ c. c.1) found.0, found.1)

-- nothing, or something
pub none_or_some : {A : Type 0} (o : Option A) → (o ≡ None) ⊎ ((a : A) × (o ≡ Some a))
none_or_some None = inl refl
none_or_some (Some a) = inr (a, refl)

-- ---- one block more

-- a coded block before what the blocks behind it are
abbrev pub with_coded : List Bool → List ℤ → Result Coded ℕ → Result Coded ℕ
with_coded code block (Ok rest) = Ok ((code, block) ∷ rest.0, rest.1)
with_coded code block (Err b) = Err b

abbrev pub next_coded : ℕ → List Bool → Option (List ℤ × ℕ) → (List Bool → Result Coded ℕ) → Result Coded ℕ
next_coded b s o behind = elim o [ None ↦ Err b | Some code ↦ with_coded (take code.1 s) code.0 (behind (drop code.1 s)) ]

-- a block before what the blocks behind it are
abbrev pub with_block : List ℤ → Result (List (List ℤ) × List Bool) ℕ → Result (List (List ℤ) × List Bool) ℕ
with_block block (Ok rest) = Ok (block ∷ rest.0, rest.1)
with_block block (Err b) = Err b

-- the block of a code in front and what the bits behind the code give, or the number of the block whose code ends too early
abbrev pub read_next : ℕ → List Bool → Option (List ℤ × ℕ) → (List Bool → Result (List (List ℤ) × List Bool) ℕ) → Result (List (List ℤ) × List Bool) ℕ
read_next b s None behind = Err b
read_next b s (Some code) behind = with_block code.0 (behind (drop code.1 s))

alone : Result Coded ℕ → Result (List (List ℤ) × List Bool) ℕ
alone r = result_map_both blocks_in (λ k. k) r

alone_with : (code : List Bool) (block : List ℤ) (r : Result Coded ℕ) → alone (with_coded code block r) ≡ with_block block (alone r)
unfolding alone
alone_with code block (Ok rest) = refl
alone_with code block (Err b) = refl

alone_next : (b : ℕ) (s : List Bool) (o : Option (List ℤ × ℕ)) (behind : List Bool → Result Coded ℕ) → alone (next_coded b s o behind) ≡ read_next b s o (λ t. alone (behind t))
unfolding alone
alone_next b s None behind = refl
alone_next b s (Some code) behind = alone_with (take code.1 s) code.0 (behind (drop code.1 s))

pub read_codes-suc : (h : Header) (b n : ℕ) (s : List Bool) → read_codes h b (suc n) s ≡ read_next b s (read_code (width_of h.ty) h.mode (extent_of h.shape b) s) (read_codes h (suc b) n)
unfolding alone
read_codes-suc h b n s = alone_next b s (read_code (width_of h.ty) h.mode (extent_of h.shape b) s) (coded_blocks h (suc b) n)

-- what was read of blocks was read of coded blocks
pub read_coded : (r : Result Coded ℕ) (found : List (List ℤ) × List Bool) → result_map_both blocks_in (λ k. k) r ≡ Ok found → (coded : Coded) × (r ≡ Ok coded) × (blocks_in coded ≡ found)
read_coded (Ok coded) found e = (coded, refl, cc)
read_coded (Err b) found e = absurd (cc)

pub cut_coded : (r : Result Coded ℕ) (b : ℕ) → result_map_both blocks_in (λ k. k) r ≡ Err b → r ≡ Err b
cut_coded (Ok coded) b e = absurd (cc)
cut_coded (Err k) b e = let same : k ≡ b = cc in ap (λ (j : ℕ). Err j) same

-- the raw values of blocks that were read
abbrev pub blocks_text : Header → Result (List (List ℤ) × List Bool) ℕ → List ℕ
blocks_text h (Ok found) = raw_bytes h (values_of_blocks h.shape found.0)
blocks_text h (Err b) = []

-- ---- the answer

-- the values, where nothing is wrong with what stands behind the codes
abbrev pub values_or_fault : List ℤ → Result (Unit {0}) StreamFault → Result (List ℤ) StreamFault
values_or_fault values (Ok good) = Ok values
values_or_fault values (Err e) = Err e

-- the codes and the fill of a stream of so many bits that has this header
abbrev pub codes_answer : Header → ℕ → Result (List (List ℤ) × List Bool) ℕ → Result (List ℤ) StreamFault
codes_answer h all (Err b) = Err (faults.Truncated b)
codes_answer h all (Ok found) = values_or_fault (values_of_blocks h.shape found.0) (fill_answer h (all - length found.1) found.1)

-- a fault of the header, or else what the rest says
abbrev pub header_or : {T : Type 0} → Option HeaderFault → Result T StreamFault → Result T StreamFault
header_or fault rest = elim fault [ None ↦ rest | Some f ↦ Err (faults.Header f) ]

-- the values of what is said, and that it is said at all
abbrev pub values_in : Result Said StreamFault → Result (List ℤ) StreamFault
values_in answer = result_map_both (λ said. said.values) (λ e. e) answer

unfoldable pub values_said : List ℕ → Result (List ℤ) StreamFault
values_said bytes = values_in (parse bytes)

abbrev pub without_values : Result (List ℤ) StreamFault → Result (Unit {0}) StreamFault
without_values (Ok values) = Ok tt
without_values (Err e) = Err e

abbrev pub without_said : Result Said StreamFault → Result (Unit {0}) StreamFault
without_said (Ok said) = Ok tt
without_said (Err e) = Err e

values_with : (said : Said) (r : Result (Unit {0}) StreamFault) → values_in (result_map_both (λ good. said) (λ e. e) r) ≡ values_or_fault said.values r
values_with said (Ok good) = refl
values_with said (Err e) = refl

-- what is said of coded blocks
abbrev pub by_coded : Header → ℕ → Result Coded ℕ → Result Said StreamFault
by_coded h all r = elim r [ Err b ↦ Err (faults.Truncated b) | Ok found ↦ said_with h all found ]

values_of_coded : (h : Header) (all : ℕ) (r : Result Coded ℕ) → values_in (by_coded h all r) ≡ codes_answer h all (alone r)
unfolding alone
values_of_coded h all (Err b) = refl
values_of_coded h all (Ok found) = search (rules, values_with)

-- the values that bits behind a header say are those of their blocks
pub values_behind : (h : Header) (all : ℕ) (s : List Bool) → values_in (said_behind h all s) ≡ codes_answer h all (read_codes h 0 (blocks h.shape) s)
unfolding alone
values_behind h all s = values_of_coded h all (coded_blocks h 0 (blocks h.shape) s)

values_or : (fault : Option HeaderFault) (rest : Result Said StreamFault) → values_in (header_or fault rest) ≡ header_or fault (values_in rest)
values_or None rest = refl
values_or (Some f) rest = refl

pub values_said-is : (bytes : List ℕ)
    → values_said bytes ≡ header_or (header_fault bytes) (codes_answer (header_of bytes) (length (to_bits bytes)) (read_codes (header_of bytes) 0 (blocks (header_of bytes).shape) (code_bits bytes)))
unfolding values_said parse
values_said-is bytes =
    let h = header_of bytes in
    values_or (header_fault bytes) (said_behind h (length (to_bits bytes)) (code_bits bytes))
    ∙ ap (header_or (header_fault bytes)) (values_behind h (length (to_bits bytes)) (code_bits bytes))

pub restore_answer-values : (bytes : List ℕ) → restore_answer bytes ≡ without_values (values_said bytes)
unfolding values_said
restore_answer-values bytes = search rules

-- what was said has those values
pub values_err : (answer : Result Said StreamFault) (e : StreamFault) → values_in answer ≡ Err e → answer ≡ Err e
values_err (Ok said) e is = absurd (cc)
values_err (Err f) e is = let same : f ≡ e = cc in ap (λ (g : StreamFault). Err g) same

-- so codes and a fill that are wrong say the same fault
pub behind_err : (h : Header) (all : ℕ) (s : List Bool) (e : StreamFault) → codes_answer h all (read_codes h 0 (blocks h.shape) s) ≡ Err e → said_behind h all s ≡ Err e
behind_err h all s e is = values_err (said_behind h all s) e (values_behind h all s ∙ is)

-- ---- what is said
