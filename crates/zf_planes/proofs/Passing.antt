-- A reader that passes the bits of a code in parts, within a budget.
use Rattle.std.proofs.Common.{rules, ◌≡◌, ℕ, ◌+◌, ◌-◌, ◌≤◌, length, drop, refl, sym, ap, ◌∙◌, arith, length-drop}
use Rattle.std.{proofs.lemmas.List.{drop-drop}, specs.Prelude.{Option, None, Some, IfNone}}
use Rattle.zf_bits.specs.Reader.{Reader, rest}
use Rattle.zf_planes.specs.Decoding.{Takes, Lacks}

-- of the bits that are needed, more are to come
pub record Passes (old now : Reader) (budget left more needed : ℕ) : Type 0 where
  pub taken : Takes old now budget left (budget - left)
  pub sum : budget - left + more ≡ needed

pub Passes-start : (r : Reader) (budget needed : ℕ) → Passes r r budget budget needed needed
Passes-start r budget needed = record { taken = record { enough = omega arith; place = omega arith; all = refl; spent = omega arith }; sum = omega arith }

-- the length of what is left
pub long : (r : Reader) → length (rest r) ≡ length r.all - r.at
long r = length-drop r.at r.all

pub Passes-part : {old now new : Reader} {budget left after count more needed : ℕ} (less : ℕ) → Passes old now budget left more needed → more ≡ count + less → Takes now new left after count
    → Passes old new budget after less needed
Passes-part {old} {now} {new} {budget} {left} {after} {count} {more} {needed} less passes e takes = search (rules, long)

pub Passes-end : {old now : Reader} {budget left more needed : ℕ} → Passes old now budget left more needed → more ≡ 0 → Takes old now budget left needed
Passes-end passes none = search rules

-- what is needed of a part is not there
pub Passes-lacks : {old now new : Reader} {budget left count more needed : ℕ} → Passes old now budget left more needed → Lacks now new count → count ≤ more → Lacks old new needed
Passes-lacks {old} {now} passes lacks part = search (rules, long)

-- ---- what is said of an answer by its variant, and carried on

pub if_none : {A : Type 0} {P : Type 0} (answer : Option A) → P → IfNone answer P
if_none None p = p
if_none (Some x) p = tt

pub on_none : {A : Type 0} (answer : Option A) {P Q : Type 0} → IfNone answer P → (P → Q) → IfNone answer Q
on_none None p next = next p
on_none (Some x) p next = tt

-- ---- two parts, of which the second gives the answer

pub Takes-rest : {old now : Reader} {before after count : ℕ} → Takes old now before after count → rest now ≡ drop count (rest old)
Takes-rest {old} {now} {before} {after} {count} takes =
    ap (λ n. drop n now.all) takes.place ∙ ap (drop (old.at + count)) takes.all ∙ sym (drop-drop count old.at old.all)

-- two parts that were both passed
pub Takes-sum : {old mid new : Reader} {before between after first : ℕ} (second needed : ℕ) → Takes old mid before between first → needed ≡ first + second → Takes mid new between after second → Takes old new before after needed
Takes-sum {old} {mid} {new} {before} second needed takes sum rest =
    let one = Passes-part second (Passes-start old before needed) sum takes in
    Passes-end (Passes-part 0 one (omega arith) rest) refl
