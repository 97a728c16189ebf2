-- An array as it is made, and what is saved of it.
use Rattle.std.proofs.Common.{◌≡◌, sym, ap, subst, ◌∙◌, ℕ, ℤ, Bool, false, List, length, get_or, replicate, rules}
use Rattle.std.{specs.Int.{Width}, proofs.lemmas.Bool.{cases_lt}}
use Rattle.std.proofs.lemmas.List.{get_or_past, length-replicate, get_or-replicate}
use Rattle.zf_spec.{specs.Grid.{blocks}, specs.Stream.{fixed_rate}}
use Rattle.zf_spec.proofs.Counting.{map-get_or-upto}
use Rattle.zf_base.{specs.declared.lane.Ty.{Ty}}
use Rattle.zf_base.{specs.Widths.{width_of}, specs.Formats.{meant}}
use Rattle.zf_header.{specs.declared.header.Header.{Header}, specs.declared.header.Mode.{Mode}}
use Rattle.zf_header.specs.declared.header.Mode.TheVariants.{Rate}
use Rattle.zf_header.specs.HeaderBits.{IsRate, coding, block_bits}
use Rattle.zf_cached.{specs.State.{no_counts}, specs.Changes.{opened, raised, resized, zeros}}
use Rattle.zf_cached.specs.Arrays.{rate_coding, array_format, zero_codes, open_array, new_array, codes_of, saved_file}
use Rattle.zf_cached.proofs.States.{same_state}
use Rattle.zf_cache.{specs.Kept.{Kept, IsEmpty}, proofs.Stands.{standing}}
use Rattle.zf_cache.specs.Standing.{state_of, Fits, state_at}
use Rattle.zf_cache.proofs.Touches.{state_is, no_tag, all_meant}
use Rattle.zf_store.specs.Stored as store
use Rattle.zf_store.{specs.Stored.{Stored, code_at, format_of, rate_of}}
use Rattle.zf_array.specs.Standing.{Held, stored, format, state}
use Rattle.zf_array.specs.Parts.{held_by}
use Rattle.zf_array.proofs.Standing.{zero_meant, stored_held, state_held}

-- a type is known by its width
pub same_ty : (s t : Ty) → width_of s ≡ width_of t → s ≡ t
same_ty s t e = search rules

-- ---- an array as it is made

module _ {X : Type 0} (value : X → ℤ) where
  -- an empty cache and a store stand for an array as it is opened
  pub opens : (s : Stored) (c : Kept X) (n : ℕ) → length s.codes ≡ blocks s.header.shape → IsEmpty c n → c.counts ≡ no_counts → Fits value c (format_of s) (code_at s)
      → state (held_by value s c) ≡ opened (format (held_by value s c)) (code_at (stored (held_by value s c))) n
  unfolding opened
  opens s c n count empty counts fits = search (rules, length-replicate, standing, same_state, no_tag, all_meant, state_held, state_is, stored_held)

  -- an empty cache over zeros stands for an array as it is resized
  pub resizes : (old : Stored) (c : Kept X) (t : Stored) (e : Kept X) (ty : Ty) (ns : List ℕ) (budget : ℕ) → t ≡ store.zeros ty ns budget
      → IsEmpty e (length c.tags) → e.counts ≡ c.counts → Fits value e (format_of t) (code_at t)
      → state (held_by value t e) ≡ resized (format (held_by value t e)) (replicate budget false) (state_of value c (format_of old) (code_at old))
  unfolding resized state_at
  resizes old c t e ty ns budget is empty counts fits =
      let f = format_of t in
      let none : ℕ = 0 in
      let long : length e.tags ≡ length c.tags = ap length empty ∙ length-replicate (length c.tags) none in
      let code : (b : ℕ) → code_at t b ≡ replicate budget false = λ b. ap (λ (u : Stored). code_at u b) is ∙ zero_code ns budget b in
      let rate : rate_of t ≡ budget = ap rate_of is in
      let zero : (b : ℕ) → meant f b (code_at t b) ≡ zeros f = λ b. ap (meant f b) (code b ∙ ap (λ m. replicate m false) (sym rate)) ∙ zero_meant t b in
      let count : length t.codes ≡ blocks t.header.shape = subst (λ (u : Stored). length u.codes ≡ blocks u.header.shape) (sym is) (length-replicate (blocks ns) (replicate budget false)) in
      search (rules, same_state, standing, no_tag, all_meant, state_held, state_is, stored_held)
    where
      zero_code : (ns : List ℕ) (budget b : ℕ) → get_or (replicate (blocks ns) (replicate budget false)) b (replicate budget false) ≡ replicate budget false
      zero_code ns budget b = search (rules, cases_lt, get_or-replicate, get_or_past, length-replicate)

-- ---- an array and what is saved of it, in the words of the definitions

-- one that is opened
pub open_is : (w : Width) (h : Header) (codes : List (List Bool)) (lines : ℕ) → w ≡ width_of h.ty
    → (let s : Stored = record { header = h; codes = codes } in opened (format_of s) (code_at s) (raised lines)) ≡ open_array w (block_bits h.mode) h.shape codes lines
unfolding open_array
open_is w h codes lines is = ap (λ (v : Width). opened (array_format (rate_coding v (block_bits h.mode)) h.shape) (λ b. get_or codes b (replicate (block_bits h.mode) false)) (raised lines)) (sym is)

pub new_is : (w : Width) (ty : Ty) (ns : List ℕ) (budget lines : ℕ) → w ≡ width_of ty
    → opened (format_of (store.zeros ty ns budget)) (code_at (store.zeros ty ns budget)) (raised lines) ≡ new_array w budget ns lines
unfolding new_array
new_is w ty ns budget lines is = open_is w (record { ty = ty; shape = ns; mode = Rate budget }) (zero_codes budget ns) lines is

-- the mode of a rate
rate_coding_is : (m : Mode) → IsRate m → coding m ≡ fixed_rate (block_bits m)
rate_coding_is m is = search rules

-- what is saved
pub saved_is : (w : Width) (a : Held) → w ≡ width_of a.header.ty → IsRate a.header.mode → length a.codes ≡ blocks a.header.shape
    → store.file_of (stored a) ≡ saved_file w (block_bits a.header.mode) a.header.shape (state a)
unfolding saved_file codes_of state
saved_is w a same_type rate count =
    let codes = map-get_or-upto a.codes (blocks a.header.shape) (replicate (block_bits a.header.mode) false) count in cc (rate_coding_is a.header.mode rate)
