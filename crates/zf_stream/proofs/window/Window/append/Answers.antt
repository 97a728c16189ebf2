use Rattle.std.{proofs.lemmas.Grind.{common_steps}, proofs.lemmas.Bool.{ltb-false}, specs.Vec.{with_items}}
use Rattle.std.proofs.Common.{◌≡◌, ℕ, ◌+◌, ◌*◌, ◌/◌, ◌<◌, ◌≤◌, List, Bool, ◌++◌, length, take, drop, sym, ap, ◌∙◌, length-append, arith, rules}
use Rattle.std.proofs.lemmas.List.{with_items_is, places, length-take-le, take-append-le}
use Rattle.zf_spec.{specs.Numbers.{word_bits}, specs.Stream.{to_bits}, proofs.Bytes.{length-to_bits}}
use Rattle.zf_bits.proofs.Reading.{length-reader_of}
use Rattle.zf_stream.{specs.Drawing.{Draws}, specs.Windows.{left_of}, proofs.Windows.{Refills-put}}
use Rattle.zf_stream.proofs.window.Window.append.Goals as goal

pub returns-clause-reaches : goal.returns-clause-reaches
returns-clause-reaches g c =
    let w = c.self.inside in
    let words = w.words.items in
    let new = c.put_words_at.new.words in
    let held = w.bits / 64 in
    let count = c.in_ok-count.count in
    let buf = c.read_into.new.buf in
    let rest = drop (8 * c.min-most.result) c.args.piece.now in
    let bytes = take count (buf ++ rest) in
    let within : count ≤ length buf = omega (arith, c.in_ok-count.ensures.bound, c.read_into.auto.buf) in
    let long : length bytes ≡ count = length-take-le count (buf ++ rest) (omega (arith, within, length-append buf rest)) in
    let whole : w.bits ≡ 64 * held = omega (arith, c.self.invariant.whole (ap (λ v. v.ended) c.self.view_is ∙ c.requires.going)) in
    let size : w.bits + 8 * count ≡ 64 * held + 8 * length bytes = omega (arith, whole, long) in
    let room = with_items_is w.words new (search (rules, places)) in
    let all : take (w.bits + 8 * count) (word_bits (with_items w.words new).items) ≡ c.args.self.now.reader.all ++ to_bits bytes = search rules in
    let drawn : Draws g.S.Source c.args.src.now c.read_into.new.src bytes =
    rw (take-append-le count buf rest within) (record { taken = c.in_ok-count.ensures.first.taken; given = c.in_ok-count.ensures.gave }) in
    let put = Refills-put c.args.src.now c.read_into.new.src c.args.self.now _ bytes drawn all
    (ap (λ v. v.reader.at) c.self.view_is)
    (omega (arith, c.self.invariant.at_within, ap (λ v. v.reader.at) c.self.view_is, ap (λ v. length v.reader.all) c.self.view_is, length-reader_of words w.bits w.at c.self.invariant.within))
    (ap length room ∙ c.put_words_at.ensures.len ∙ ap length c.deref_mut.ensures.value ∙ ap (λ v. v.room) c.self.view_is) in
    record { ok = put; ended = search rules; drawn = tt; source = search rules }

longer : (s : List Bool) (bytes : List ℕ) → 0 < length bytes → length s < length (s ++ to_bits bytes)
longer s bytes some = omega (arith, length-append s (to_bits bytes), length-to_bits bytes)

pub returns-clause-more : goal.returns-clause-more
unfolding returns-clause-reaches Refills-put
returns-clause-more g c = λ going.
    let w = c.self.inside in
    let old = c.args.self.now in
    let count = c.in_ok-count.count in
    let buf = c.read_into.new.buf in
    let rest = drop (8 * c.min-most.result) c.args.piece.now in
    let bytes = take count (buf ++ rest) in
    let within : count ≤ length buf = omega (arith, c.in_ok-count.ensures.bound, c.read_into.auto.buf) in
    let long : length bytes ≡ count = length-take-le count (buf ++ rest) (omega (arith, within, length-append buf rest)) in
    let full = ltb-false count (8 * c.min-most.result) going in
    let place : length old.reader.all ≡ w.bits = ap (λ v. length v.reader.all) (sym c.self.view_is) ∙ length-reader_of w.words.items w.bits w.at c.self.invariant.within in
    let room : length w.words.items ≡ old.room = ap (λ v. v.room) c.self.view_is in
    let some : 0 < length bytes = omega (arith, full, long, c.min-most.ensures, c.requires.room, c.requires.piece, c.len.ensures, room, place) in
    rw (returns-clause-reaches g c).ok.bits (longer (left_of old) bytes some)

pub invariant_of-self : goal.invariant_of-self
invariant_of-self g c = grind (arith, common_steps)
