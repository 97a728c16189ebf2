-- The bits of a window, as its words are moved and more are put behind them.
use Rattle.std.proofs.Common.{rules, ◌≡◌, sym, ap, ◌∙◌, ℕ, ◌+◌, ◌-◌, ◌*◌, ◌/◌, ◌%◌, ◌≤◌, Bool, List, [], ◌++◌, length, take, drop, ℤ, Ok, append_assoc, length-append, arith}
use Rattle.std.proofs.lemmas.List.{drop-take, drop-drop, drop-append-le, length-drop, append-nil}
use Rattle.std.proofs.lemmas.Grind.{flat_map-append}
use Rattle.zf_spec.{specs.Numbers.{field, word_bits}, specs.Stream.{to_bits}, proofs.Bytes.{length-to_bits}}
use Rattle.zf_dev.specs.declared.source.Source.{Ghosts as Source}
use Rattle.zf_stream.{specs.Drawing.{Draws}, proofs.Drawing.{Draws-none, Draws-append}}
use Rattle.zf_stream.{specs.Windows.{Window, left_of, Goes, Refills}, specs.Restoring.{stream_from}}
use Rattle.zf_stream.proofs.WordBytes.{word_bits-take, word_bits-drop}
use Rattle.zf_header.specs.declared.header.Header.{Header}
use Rattle.zf_parse.{specs.Parsing.{read_codes}, proofs.TextOfParse.{read_codes_more}}

-- ---- words moved to the front

pub bits_moved : (words new : List ℕ) (bits at first end : ℕ) → take (end - first) new ≡ take (end - first) (drop first words) → end - first ≤ length new → end ≤ length words
    → bits ≡ 64 * end → 64 * first ≤ at → at ≤ bits
    → drop (at - 64 * first) (take (bits - 64 * first) (word_bits new)) ≡ drop at (take bits (word_bits words))
bits_moved words new bits at first end same within whole bits_are before in_bits =
    let n = end - first in
    let count : bits - 64 * first ≡ 64 * n = omega arith in
    let all : 64 * first + 64 * n ≡ bits = omega arith in
    let place : 64 * first + (at - 64 * first) ≡ at = omega arith in
    let bits_of : List Bool = word_bits words in
    ap (λ k. drop (at - 64 * first) (take k (word_bits new))) count
    ∙ ap (drop (at - 64 * first))
    (sym (word_bits-take n new within) ∙ ap word_bits same ∙ word_bits-take n (drop first words) (omega (arith, length-drop first words))
    ∙ ap (take (64 * n)) (word_bits-drop first words (omega arith))
    ∙ sym (drop-take (64 * first) (64 * n) bits_of)
    ∙ ap (λ k. drop (64 * first) (take k bits_of)) all)
    ∙ drop-drop (at - 64 * first) (64 * first) (take bits bits_of)
    ∙ ap (λ k. drop k (take bits bits_of)) place

-- ---- one step after another

pub Goes-none : {A : Type 0} {S : Source A} (src : A) (w : Window) → Goes S src src w w []
Goes-none {A} {S} src w = record { drawn = Draws-none src; moved = 0; place = omega (arith, ap length (append-nil (left_of w))) }

pub Goes-next : {A : Type 0} {S : Source A} {a b c : A} {u v w : Window} {xs ys : List ℕ} → Goes S a b u v xs → Goes S b c v w ys → Goes S a c u w (xs ++ ys)
Goes-next {A} {S} {a} {b} {c} {u} {v} {w} {xs} {ys} first next = record {
  drawn = Draws-append xs ys first.drawn next.drawn;
  moved = first.moved + next.moved;
  place = search (rules, length-append, length-to_bits);
}

pub to_bits-append : (s : List Bool) (xs ys : List ℕ) → (s ++ to_bits xs) ++ to_bits ys ≡ s ++ to_bits (xs ++ ys)
to_bits-append s xs ys = append_assoc s (to_bits xs) (to_bits ys) ∙ ap (λ (bs : List Bool). s ++ bs) (sym (flat_map-append (field 8) xs ys))

pub Refills-next : {A : Type 0} {S : Source A} {a b c : A} {u v w : Window} → Refills S a b u v → Refills S b c v w → Refills S a c u w
Refills-next {A} {S} {a} {b} {c} {u} {v} {w} first next = record {
  bytes = first.bytes ++ next.bytes;
  goes = Goes-next first.goes next.goes;
  bits = next.bits ∙ (ap (λ (s : List Bool). s ++ to_bits next.bytes) first.bits ∙ to_bits-append (left_of u) first.bytes next.bytes);
  room = next.room ∙ first.room;
}

-- words that were read are gone
pub Refills-moved : {A : Type 0} {S : Source A} (src : A) (u v : Window) → left_of v ≡ left_of u → v.room ≡ u.room → v.reader.at ≡ u.reader.at % 64 → Refills S src src u v
Refills-moved {A} {S} src u v same room place = record {
  bytes = [];
  goes = record {
    drawn = Draws-none src;
    moved = u.reader.at / 64;
    place = omega (arith, place, ap length same, ap length (append-nil (left_of u)));
  };
  bits = same ∙ sym (append-nil (left_of u));
  room = room;
}

-- bytes were put behind
unfoldable pub Refills-put : {A : Type 0} {S : Source A} (a b : A) (u v : Window) (bytes : List ℕ) → Draws S a b bytes → v.reader.all ≡ u.reader.all ++ to_bits bytes → v.reader.at ≡ u.reader.at → u.reader.at ≤ length u.reader.all → v.room ≡ u.room
    → Refills S a b u v
Refills-put {A} {S} a b u v bytes drawn all place within room =
    let bits : left_of v ≡ left_of u ++ to_bits bytes = ap (drop v.reader.at) all ∙ ap (λ k. drop k (u.reader.all ++ to_bits bytes)) place ∙ drop-append-le u.reader.at u.reader.all (to_bits bytes) within in
    record {
      bytes = bytes;
      goes = record { drawn = drawn; moved = 0; place = omega (arith, place, ap length bits) };
      bits = bits;
      room = room;
    }

-- bits that are held were read
pub Goes-read : {A : Type 0} {S : Source A} {a b : A} {u v w : Window} {xs : List ℕ} → Goes S a b u v xs → w.reader.at + length (left_of w) ≡ v.reader.at + length (left_of v) → Goes S a b u w xs
Goes-read {A} {S} {a} {b} {u} {v} {w} {xs} goes read = record { drawn = goes.drawn; moved = goes.moved; place = omega (arith, goes.place, read) }

-- what was read of the bits so far is read of them with those behind
pub codes_refilled : (h : Header) (n : ℕ) (w : Window) (bytes : List ℕ) (blocks : List (List ℤ)) {A : Type 0} {S : Source A} {a b : A} {u v : Window} → read_codes h 0 n (stream_from w bytes) ≡ Ok (blocks, left_of u) → (refill : Refills S a b u v)
    → read_codes h 0 n (stream_from w (bytes ++ refill.bytes)) ≡ Ok (blocks, left_of v)
codes_refilled h n w bytes blocks {A} {S} {a} {b} {u} {v} read refill =
    ap (read_codes h 0 n) (sym (to_bits-append (left_of w) bytes refill.bytes))
    ∙ read_codes_more h 0 n (stream_from w bytes) (to_bits refill.bytes) (blocks, left_of u) read
    ∙ ap (λ (s : List Bool). Ok (blocks, s)) (sym refill.bits)
