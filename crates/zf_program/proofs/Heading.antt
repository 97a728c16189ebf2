-- What `info` promises, from what reading a header does.
use Rattle.std.proofs.Common.{rules, ◌≡◌, ℕ, ◌≤◌, cond, List, [], length, take, Option, Some, None, is_none, Ok, ◌⊎◌, inl, inr, refl, ap, sym, subst, ◌∙◌}
use Rattle.std.proofs.lemmas.List.{take_all}
use Rattle.zf_dev.{specs.Shelf.{Files}, specs.Sink.{Appends, AppendsPrefix}}
use Rattle.zf_dev.proofs.Appending.{AppendsPrefix-none}
use Rattle.zf_spec.specs.Stream.{to_bits}
use Rattle.zf_header.{specs.declared.header.Header.{Header}, specs.HeaderFields.{header_in}}
use Rattle.zf_header.specs.HeaderFaults.{header_fault}
use Rattle.zf_parse.specs.declared.fault.StreamFault.{StreamFault}
use Rattle.zf_parse.specs.declared.fault.StreamFault.TheVariants as faults
use Rattle.zf_stream.{specs.Outcomes.{IsPrefix, TakesFirst}, specs.Headed.{ReadsHeader, LacksHeader, GivesHeader}}
use Rattle.zf_words.specs.declared.command.Command.TheVariants.{Info}
use Rattle.zf_program.specs.declared.status.Status.{Status}
use Rattle.zf_program.{specs.Faults.{fault_status, header_status}, specs.Info.{info_line, info_text, TakesHeader}}
use Rattle.zf_program.{specs.World.{World, ExposesInput, seen}, specs.Answer.{meaning, MayFail, cut_draft}}
use Rattle.zf_program.{specs.Headline.{IsOfCommand, Writes, Behaves}, specs.Steps.{Told}}
use Rattle.zf_program.proofs.Exposed.{some_input, world_of, ExposesFiles-same, KeepsFiles-none}
use Rattle.zf_program.specs.declared.status.Status.TheVariants as statuses

-- the line of a header that was read is the text of the bytes that were read
pub info_text-read : (bytes : List ℕ) (h : Header) → header_fault bytes ≡ None → h ≡ header_in (to_bits bytes) → info_text bytes ≡ info_line h
info_text-read bytes h none is = ap (λ fault. cond (is_none fault) (info_line (header_in (to_bits bytes))) []) none ∙ ap info_line (sym is)

-- an input that begins with the bytes that were read
record Begins (known : Option (List ℕ)) (bytes : List ℕ) : Type 0 where
  input : List ℕ
  exposed : ExposesInput known input
  first : bytes ≡ take 19 input

begins : (known : Option (List ℕ)) (bytes : List ℕ) → IsPrefix 19 known bytes → length bytes ≤ 19 → Begins known bytes
begins None bytes is within = record { input = bytes; exposed = tt; first = sym (take_all 19 bytes within) }
begins (Some all) bytes is within = record { input = all; exposed = refl; first = is }

-- the first bytes were read: the status is that of their header, or the line was not written
Behaves-first : (status : Status) (bytes : List ℕ) (src_before src_now out_before out_now : Option (List ℕ)) (shelf : Option Files) → IsOfCommand status → TakesFirst 19 src_before src_now bytes
    → ((status ≡ header_status (header_fault bytes)) ⊎ ((w : World) → MayFail status Info w)) → ((input : List ℕ) → bytes ≡ take 19 input → TakesHeader status input bytes)
    → Writes status (info_text bytes) (cut_draft status (info_text bytes)) out_before out_now → Behaves Info status (seen src_before out_before shelf) (seen src_now out_now shelf)
Behaves-first status bytes src_before src_now out_before out_now shelf ends first stated extent written =
    let b = begins src_before bytes first.first first.within in
    let w = world_of b.input shelf in
    let stated_so : (status ≡ (meaning Info).status w []) ⊎ MayFail status Info w = search rules in
    let header = extent b.input b.first in
    search (rules, ExposesFiles-same, KeepsFiles-none)

-- the line was written
pub Behaves-line : (h : Header) (bits : ℕ) (line : List ℕ) (src_before src_now out_before out_now : Option (List ℕ)) (shelf : Option Files) → ReadsHeader src_before src_now h bits → line ≡ info_line h → Appends out_before out_now line
    → Behaves Info statuses.Done (seen src_before out_before shelf) (seen src_now out_now shelf)
Behaves-line h bits line src_before src_now out_before out_now shelf reads is written = search (rules, info_text-read, Behaves-first)

-- and what is told of it
pub Told-line : (h : Header) (bits : ℕ) (line : List ℕ) (gives given : List ℕ → Type 0) (out out_now : Option (List ℕ)) → ((bytes : List ℕ) → gives bytes → given bytes) → GivesHeader gives h bits → line ≡ info_line h → Appends out out_now line → Told Info (Ok []) given out out_now statuses.Done None
Told-line h bits line gives given out out_now more g is written =
    let fault : header_fault (take 19 g.bytes) ≡ None = ap header_fault (take_all 19 g.bytes g.few) ∙ g.begun.good in
    let text = is ∙ sym (info_text-read g.bytes h g.begun.good g.begun.header) in
    record { world = world_of g.bytes None; loaded = tt; input = more g.bytes g.given; starved = []; starved_are = refl; stated = inl (ap header_status (sym fault)); written = subst (Appends out out_now) text written; to_save = refl }

-- a prefix of the line was
pub Behaves-cut_line : (h : Header) (bits : ℕ) (line : List ℕ) (src_before src_now out_before out_now : Option (List ℕ)) (shelf : Option Files) → ReadsHeader src_before src_now h bits → line ≡ info_line h → AppendsPrefix out_before out_now line
    → Behaves Info statuses.WriteFault (seen src_before out_before shelf) (seen src_now out_now shelf)
Behaves-cut_line h bits line src_before src_now out_before out_now shelf reads is written =
    let text = is ∙ sym (info_text-read reads.bytes h reads.begun.good reads.begun.header) in
    Behaves-first statuses.WriteFault reads.bytes src_before src_now out_before out_now shelf tt reads.first (inr (λ w. tt)) (λ input first. first)
    (subst (AppendsPrefix out_before out_now) text written)

-- there was no header
pub Behaves-lacks : (e : StreamFault) (src_before src_now out : Option (List ℕ)) (shelf : Option Files) → LacksHeader src_before src_now e → Behaves Info (fault_status e) (seen src_before out shelf) (seen src_now out shelf)
Behaves-lacks (faults.Header f) src_before src_now out shelf lacks =
    Behaves-first (statuses.Header f) lacks.0 src_before src_now out out shelf tt lacks.1 (inl (ap header_status (sym lacks.2))) (λ input first. first) (AppendsPrefix-none out [])
Behaves-lacks faults.Read src_before src_now out shelf lacks =
    let some = some_input src_before in
    record {
      ends = tt;
      world = world_of some.0 shelf;
      exposed = record { input = some.1; files = ExposesFiles-same shelf };
      starved = [];
      starved_are = refl;
      stated = inr tt;
      taken = lacks.0;
      takes = lacks.2;
      extent = lacks.1;
      written = AppendsPrefix-none out [];
      saved = KeepsFiles-none shelf;
    }
Behaves-lacks e src_before src_now out shelf lacks = absurd (first_of (assumption lacks, cc))
