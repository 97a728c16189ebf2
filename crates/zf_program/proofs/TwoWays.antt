-- Codes and a two-way cache over them, as they are opened and saved.
use Rattle.std.{proofs.Common.{◌≡◌, ℕ, ℤ, [], ap, ◌∙◌}, specs.Int.{Width}}
use Rattle.zf_base.specs.Widths.{width_of}
use Rattle.zf_header.{specs.declared.header.Header.{Header}, specs.HeaderBits.{block_bits}}
use Rattle.zf_cached.{specs.State.{no_counts}, specs.Changes.{opened, raised}}
use Rattle.zf_cached.specs.Arrays.{open_array, codes_of, saved_file}
use Rattle.zf_cache.{specs.Kept.{Kept, IsEmpty}, specs.Standing.{state_at}}
use Rattle.zf_store.specs.Stored.{Stored, IsStore, format_of, code_at, file_of}
use Rattle.zf_array.{specs.Standing.{Held, state}, proofs.Steps.{open_is, saved_is}}
use Rattle.zf_twoway.proofs.Standing.{opens}
use Rattle.zf_run.specs.Pairs.{pair_state}

-- an empty cache over the codes of a file stands for the array as it is opened
pub opens_two : {X : Type 0} (value : X → ℤ) (w : Width) (s : Stored) (c : Kept X) (h : Header) (lines n : ℕ) → IsEmpty c n → c.counts ≡ no_counts → n ≡ raised lines → s.header ≡ h → w ≡ width_of h.ty
    → pair_state value s c ≡ open_array w (block_bits h.mode) h.shape s.codes lines
opens_two value w s c h lines n empty counts many header same_type =
    opens value c (format_of s) (code_at s) n empty counts
    ∙ ap (opened (format_of s) (code_at s)) many
    ∙ ap (λ (k : Header). let t : Stored = record { header = k; codes = s.codes } in opened (format_of t) (code_at t) (raised lines)) header
    ∙ open_is w h s.codes lines same_type

-- the file of the codes is the one that is saved of it
pub saved_two : {X : Type 0} (value : X → ℤ) (w : Width) (d : ℕ) (s : Stored) (c : Kept X) → IsStore w d s → file_of s ≡ saved_file w (block_bits s.header.mode) s.header.shape (pair_state value s c)
unfolding saved_file codes_of state state_at
saved_two value w d s c whole =
    let a : Held = record { header = s.header; lines = []; dirty = []; values = []; codes = s.codes; counts = c.counts } in
    saved_is w a whole.same_type whole.rate whole.count
