use Rattle.std.proofs.Common.{◌≡◌, sym, ap, ◌∙◌, ⊎_elim, ℕ, suc, ◌+◌, ◌*◌, ◌<◌, List, [], ◌∷◌, ◌++◌, length, get_or, length-append, arith, rules}
use Rattle.std.{proofs.Math.Nat.{mul-suc}, proofs.Math.Seq.{get_or-append_seam}}
use Rattle.std.{proofs.lemmas.Bool.{cases_lt}, proofs.lemmas.List.{get_or_append_left}}
use Rattle.zf_index.{specs.Spans.{Index, place}, proofs.Places.{ends_within}}
use Rattle.zf_index.proofs.index.places_of.Goals as goal

-- what no chunk has yet
no_chunk : (step : ℕ) (xs : List ℕ) → xs ≡ [] → 0 ≡ step * length xs
no_chunk step xs none = let zeros : 0 ≡ step * 0 = omega arith in zeros ∙ sym (ap (λ (ys : List ℕ). step * length ys) none)

pub loop-first-init : goal.loop-first-init
loop-first-init c = search (rules, no_chunk)

pub loop-code-init : goal.loop-code-init
loop-code-init c = c.loop-first.invariant.at

pub overflow_add-at : goal.overflow_add-at
overflow_add-at c =
    let lens = c.args.lens.now in
    let i : Index = record { start = c.args.start; lens = lens } in
    let below : c.loop-code.code < length lens = omega (arith, c.loop-code-test.true, c.min.ensures, c.loop-first-test.true) in
    omega (arith, ends_within i c.loop-code.code (length lens) below, c.from-at.ensures, c.loop-code.invariant, c.requires.within)

pub loop-code-preserved : goal.loop-code-preserved
loop-code-preserved c = search rules

-- the places with one more, which begins a chunk
more : (step : ℕ) (i : Index) (xs ys : List ℕ) (at first : ℕ) → ys ≡ xs ++ at ∷ [] → at ≡ place i first → first ≡ step * length xs
    → ((c : ℕ) → c < length xs → get_or xs c 0 ≡ place i (step * c)) → (c : ℕ) → c < length ys → get_or ys c 0 ≡ place i (step * c)
more step i xs ys at first is there chunk each c lt =
    let size : length ys ≡ length xs + 1 = ap length is ∙ length-append xs (at ∷ []) in
    ap (λ (zs : List ℕ). get_or zs c 0) is
    ∙ ⊎_elim
    (λ below. get_or_append_left xs (at ∷ []) 0 c below ∙ each c below)
    (λ ge. let last : c ≡ length xs = omega (arith, lt, size) in
    ap (λ k. get_or (xs ++ at ∷ []) k 0) last ∙ get_or-append_seam xs at [] 0 ∙ there ∙ ap (place i) (chunk ∙ ap (λ k. step * k) (sym last)))
    (cases_lt c (length xs))

pub loop-first-preserved : goal.loop-first-preserved
loop-first-preserved c =
    let lens = c.args.lens.now in
    let i : Index = record { start = c.args.start; lens = lens } in
    let step = c.args.step in
    let so_far = c.loop-first.invariant in
    let xs = c.loop-first.places.items in
    let ys = c.push.new.self.items in
    let chunk = so_far.chunk c.loop-first-test.true in
    let size : length ys ≡ length xs + 1 = ap length c.in_ok-push.ensures.items ∙ length-append xs (c.loop-first.at ∷ []) in
    let next : step * length ys ≡ step * length xs + step = ap (λ k. step * k) size ∙ (let one : length xs + 1 ≡ suc (length xs) = omega arith in ap (λ k. step * k) one) ∙ mul-suc step (length xs) in
    let end : c.loop-code.code ≡ c.loop-first.first + c.min.result = omega (arith, c.loop-code-test.false, c.loop-code.auto.code-end) in search (rules, more)

pub returns : goal.returns
returns c = search rules
