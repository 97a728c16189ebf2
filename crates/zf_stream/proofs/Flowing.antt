-- Bits on their way through a writer to a sink, one part after another.
use Rattle.std.proofs.Common.{rules, ◌≡◌, sym, ap, ◌∙◌, ℕ, ◌<◌, Bool, List, ◌++◌, Option, length-append, append_assoc}
use Rattle.std.{proofs.lemmas.List.Elements.{All-append}, proofs.lemmas.Grind.{flat_map-append}}
use Rattle.zf_spec.specs.Stream.{to_bits}
use Rattle.zf_dev.proofs.Appending.{Appends-append, AppendsPrefix-all, AppendsPrefix-append}
use Rattle.zf_stream.specs.Flows.{Flows, Spills}

-- bits more are at hand
pub Flows-more : {a b : Option (List ℕ)} {bits left : List Bool} (more : List Bool) → Flows a b bits left → Flows a b (bits ++ more) (left ++ more)
Flows-more {a} {b} {bits} {left} more flows =
    let parts = sym (append_assoc (to_bits flows.bytes) left more) ∙ ap (λ (bs : List Bool). bs ++ more) flows.parts in
    search rules

-- and some of what was left
pub Flows-next : {a b c : Option (List ℕ)} {bits left last : List Bool} → Flows a b bits left → Flows b c left last → Flows a c bits last
Flows-next {a} {b} {c} {bits} {left} {last} first next =
    let written = Appends-append a b c first.bytes next.bytes first.written next.written in
    let small = All-append (λ b. b < 256) first.bytes next.bytes first.small next.small in
    let parts : to_bits (first.bytes ++ next.bytes) ++ last ≡ bits = simp (append_assoc, flat_map-append) (cc) in
    search (rules, length-append)

pub Flows-spill : {a b c : Option (List ℕ)} {bits left : List Bool} → Flows a b bits left → Spills b c left → Spills a c bits
Flows-spill {a} {b} {c} {bits} {left} first next =
    let parts : to_bits (first.bytes ++ next.bytes) ++ next.left ≡ bits = simp (append_assoc, flat_map-append) (cc) in
    search (rules, AppendsPrefix-append, All-append)

-- where nothing went wrong too
pub Spills-flows : {a b : Option (List ℕ)} {bits left : List Bool} → Flows a b bits left → Spills a b bits
Spills-flows {a} {b} {bits} {left} flows = search (rules, AppendsPrefix-all)

-- bits more were to come
pub Spills-more : {a b : Option (List ℕ)} {bits : List Bool} (more : List Bool) → Spills a b bits → Spills a b (bits ++ more)
Spills-more {a} {b} {bits} more spills =
    let parts = sym (append_assoc (to_bits spills.bytes) spills.left more) ∙ ap (λ (bs : List Bool). bs ++ more) spills.parts in
    search rules
