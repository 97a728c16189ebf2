use Rattle.std.proofs.Common.{rules, ◌≡◌, ℕ, ◌+◌, ◌-◌, ◌*◌, ◌/◌, ◌%◌, ◌<◌, ◌⊎◌, ⊎_elim, min, length, take, drop, ap, subst, ◌∙◌, arith}
use Rattle.std.{proofs.lemmas.Bool.{cases_lt}, proofs.lemmas.List.{length-take}, proofs.Math.Seq.{take-add}}
use Rattle.zf_bits.specs.Reader.{rest}
use Rattle.zf_planes.{specs.Decoding.{Lacks}}
use Rattle.zf_planes.proofs.Passing.{Passes-part, Passes-lacks, Takes-rest, if_none}
use Rattle.zf_planes.proofs.Placing.{clear_zeros, word_filled}
use Rattle.zf_spec.proofs.HeldPlanes.{digits_held-none}
use Rattle.zf_planes.proofs.decoding.read_prefix.Goals as goal

pub loop-at-init : goal.loop-at-init
loop-at-init g c = search (rules, digits_held-none, clear_zeros)

pub returns-in_err-digits-clause-short : goal.returns-in_err-digits-clause-short
returns-in_err-digits-clause-short g c =
    let count : c.min-count.result ≡ min c.args.n c.args.cursor.now.left = omega (arith, c.min-count.ensures) in
    let P : ℕ → Type 0 = λ n. Lacks c.args.cursor.now.reader c.read_word.new.self.reader n in
    if_none _ (subst P count (Passes-lacks c.loop-at.invariant.passes c.in_err-digits.ensures.short (omega (arith, c.min-more.ensures))))

-- the next place is the start of a word, or the end
next_place : (at count more : ℕ) → at < count → (at % 64 ≡ 0) ⊎ (at ≡ count) → more ≡ min (count - at) 64 → ((at + more) % 64 ≡ 0) ⊎ (at + more ≡ count)
next_place at count more below place is = search (rules, cases_lt)

pub loop-at-preserved : goal.loop-at-preserved
loop-at-preserved g c =
    let count = c.min-count.result in
    let at = c.loop-at.at in
    let n = c.min-more.result in
    let q = at / 64 in
    let before = c.loop-at.invariant in
    let old = g.P.Plane.words c.loop-at.plane in
    let s = rest c.args.cursor.now.reader in
    let ok = c.in_ok-digits.ensures in
    let now = rest c.loop-at.cursor.reader in
    let passed : c.args.cursor.now.left - c.loop-at.cursor.left ≡ at = omega (arith, before.passes.sum, before.within) in
    let here : now ≡ drop at s = Takes-rest before.passes.taken ∙ ap (λ k. drop k s) passed in
    let more = take n now in
    let long : length more ≡ n = omega (arith, length-take n now, ok.taken.enough) in
    let start : at ≡ 64 * q = ⊎_elim (λ (e : at % 64 ≡ 0). omega arith) (λ (e : at ≡ count). absurd (omega (arith, c.loop-at-test.true))) before.place in
    let in_words : q < length old = omega (arith, c.requires.words, c.min-count.ensures, c.loop-at-test.true, g.met.P.Plane.long c.loop-at.plane) in
    let filled = word_filled old at q n c.in_ok-digits.digits more start (omega (arith, c.min-more.ensures)) in_words ok.digits long before.clear in
    let less : count - at ≡ n + (count - (at + n)) = omega (arith, c.min-more.ensures) in
    record {
      passes = Passes-part (count - (at + n)) before.passes less ok.taken;
      place = next_place at count n c.loop-at-test.true before.place c.min-more.ensures;
      within = omega (arith, c.min-more.ensures, c.loop-at-test.true);
      digits = search (rules, take-add);
      clear = rw c.set_word.ensures filled.1;
    }

-- ---- all are read
