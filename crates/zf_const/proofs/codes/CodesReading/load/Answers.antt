use Rattle.std.proofs.Common.{◌≡◌, sym, ap, subst, ◌∙◌, ℕ, ◌-◌, ◌*◌, ◌%◌, ◌^◌, ◌<◌, ◌≤◌, ℤ, List, Option, Some, None, map, length, take, drop, arith, rules}
use Rattle.std.specs.Int.{Width}
use Rattle.zf_spec.{specs.Grid.{blocks, extent_of}, specs.Stream.{to_bits}}
use Rattle.zf_base.{specs.Formats.{existing_of, meant}, proofs.Extents.{length-extent_of}}
use Rattle.zf_bits.specs.Reader.{Reader, rest}
use Rattle.zf_header.specs.declared.header.Header.{Header}
use Rattle.zf_cached.{specs.Arrays.{array_format}, proofs.Arrays.{existing_of-array}}
use Rattle.zf_parse.{specs.Parsing.{read_code}, specs.ReadStreams.{ReadsCode, LacksCode}}
use Rattle.zf_parse.proofs.Excerpts.{cut_told}
use Rattle.zf_index.{specs.Spans.{len_at, span_at}, specs.declared.span.Span.{Span}, proofs.Places.{place-le}}
use Rattle.zf_index.{specs.Files.{found, block_read}}
use Rattle.zf_const.{specs.declared.index.Index.{Index}, specs.Standing.{coding_of}}
use Rattle.zf_const.specs.Parts.{Coded, seen, format_of, code_at, coded_by, IsCoded}
use Rattle.zf_const.proofs.Meaning.{found_meant}
use Rattle.zf_const.proofs.codes.CodesReading.load.Goals as goal

nothing : {A : Type 0} {a : A} → None ≡ Some a → ⊥
nothing e = absurd cc

same_block : {a c : List ℤ} {m n : ℕ} → ◌≡◌ {A = Option (List ℤ × ℕ)} (Some (a, m)) (Some (c, n)) → a ≡ c
same_block {a} {c} {m} {n} e = let pairs : ◌≡◌ {A = List ℤ × ℕ} (a, m) (c, n) = cc in ap (λ (p : List ℤ × ℕ). p.0) pairs

module _ (w : Width) (d : ℕ) (h : Header) (file : List ℕ) (index : Index) (room : ℕ) (coded : IsCoded w d h file (seen index) room) (now : Coded) (is : coded_by h file index ≡ now) (b : ℕ) where
  below : b < (format_of now).blocks → b < length (seen index).lens
  unfolding array_format
  below lt = omega (arith, coded.count, ap (λ (s : Coded). blocks s.header.shape) is, lt)

  size_is : (n : ℕ) → n ≡ (format_of now).block_len → n ≡ 4 ^ length h.shape
  unfolding array_format
  size_is n e = e ∙ sym (ap (λ (s : Coded). (format_of s).block_len) is)

  module _ (lt : b < length (seen index).lens) (span : Span) (is_span : span ≡ span_at (seen index) b) where
    within : span.at ≤ 8 * length file
    within = omega (arith, ap (λ (x : Span). x.at) is_span, place-le (seen index) b (length (seen index).lens) (omega (arith, lt)), coded.within)

    -- a reader of as many bits of the file, from the code on, as there is room for
    module _ (r : Reader) (left : rest r ≡ take (64 * room - span.at % 64) (drop span.at (to_bits file))) where
      there : read_code w h.mode (extent_of h.shape b) (rest r) ≡ Some (block_read (found h (seen index) (to_bits file) b), len_at (seen index) b)
      there = search (rules, cut_told, length-extent_of)

      not_none : LacksCode w h.mode (length h.shape) r → ⊥
      not_none lacks = nothing (sym (lacks.code (extent_of h.shape b) (length-extent_of h.shape b)) ∙ there)

      value_is : (new : Reader) (block : List ℤ) → ReadsCode w h.mode (length h.shape) r new block → existing_of (format_of now) b block ≡ meant (format_of now) b (code_at now b)
      value_is new block reads =
          let P : Coded → Type 0 = λ t. existing_of (format_of t) b block ≡ meant (format_of t) b (code_at t b) in
          let same = same_block (sym (reads.code (extent_of h.shape b) (length-extent_of h.shape b)) ∙ there) in
          subst P is (existing_of-array (coding_of h) h.shape b block ∙ same ∙ sym (found_meant h (seen index) (to_bits file) b lt coded.read))

pub span-requires : goal.span-requires
span-requires g c = search (rules, below)

pub take-requires-clause-within : goal.take-requires-clause-within
take-requires-clause-within g c =
    let s = c.self.inside in
    let lt = below g.T.Lane.width g.row.D s.header s.file.items s.index s.excerpt.room c.self.invariant c.args.self.now c.self.view_is c.args.b c.requires.block in
    omega (
      arith,
      ap length c.deref.ensures.value,
      within g.T.Lane.width g.row.D s.header s.file.items s.index s.excerpt.room c.self.invariant c.args.self.now c.self.view_is c.args.b lt c.span.result c.span.ensures,
    )

pub read_code-requires : goal.read_code-requires
read_code-requires g c = search (rules, size_is)

pub unreachable-requires : goal.unreachable-requires
unreachable-requires g c =
    let s = c.self.inside in
    let lt = below g.T.Lane.width g.row.D s.header s.file.items s.index s.excerpt.room c.self.invariant c.args.self.now c.self.view_is c.args.b c.requires.block in
    let left = ap rest c.reader-reader.ensures ∙ c.take.ensures.bits ∙ ap (λ (bs : List ℕ). take (64 * s.excerpt.room - c.span.result.at % 64) (drop c.span.result.at (to_bits bs))) c.deref.ensures.value in
    not_none g.T.Lane.width g.row.D s.header s.file.items s.index s.excerpt.room c.self.invariant c.args.self.now c.self.view_is c.args.b lt
    c.span.result c.span.ensures c.reader-reader.result left c.in_default.ensures.none

pub returns-clause-value : goal.returns-clause-value
returns-clause-value g c =
    let s = c.self.inside in
    let lt = below g.T.Lane.width g.row.D s.header s.file.items s.index s.excerpt.room c.self.invariant c.args.self.now c.self.view_is c.args.b c.requires.block in
    let left = ap rest c.reader-reader.ensures ∙ c.take.ensures.bits ∙ ap (λ (bs : List ℕ). take (64 * s.excerpt.room - c.span.result.at % 64) (drop c.span.result.at (to_bits bs))) c.deref.ensures.value in
    value_is g.T.Lane.width g.row.D s.header s.file.items s.index s.excerpt.room c.self.invariant c.args.self.now c.self.view_is c.args.b lt
    c.span.result c.span.ensures c.reader-reader.result left c.read_code.new.reader (map g.T.Lane.value c.read_code.new.block) c.in-Some.ensures.some
