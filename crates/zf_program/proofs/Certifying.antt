-- What `bound` does, from what its calls answer.
use Rattle.std.proofs.Common.{rules, ◌≡◌, ℕ, ◌↔◌, IsTrue, List, length, Option, Result, Ok, Err, IsOk, IfOk, inl, inr, refl, ap, sym, subst, ◌∙◌}
use Rattle.std.{proofs.lemmas.Bool.{true≢false}, specs.Int.{Width}}
use mir.Val.{bits}
use Rattle.zf_base.specs.Widths.{width_of}
use Rattle.zf_dev.{specs.Shelf.{Files, KeepsFiles}, specs.Sink.{Appends, AppendsPrefix}}
use Rattle.zf_dev.specs.declared.sink.Sink.{Ghosts as Sink}
use Rattle.zf_header.{specs.declared.header.Header.{Header}, specs.HeaderBits.{IsRate}}
use Rattle.zf_parse.{specs.declared.fault.StreamFault.{StreamFault}, specs.Parsing.{Said, parse}}
use Rattle.zf_parse.specs.ReadStreams.{IsFault}
use Rattle.zf_index.{specs.declared.fault.IndexFault.{IndexFault}, specs.Files.{HasHeader, stream_fault}}
use Rattle.zf_bound.{specs.declared.certified.Certified.{Certified}, specs.Errors.{IsSmallEnough}}
use Rattle.zf_bound.specs.Bounds.{plane_of, error_of, certified_of, bound_text}
use Rattle.zf_words.specs.declared.command.Command.TheVariants.{Bound}
use Rattle.zf_program.specs.declared.status.Status.{Status}
use Rattle.zf_program.{specs.Faults.{index_status}, specs.Opened.{array_in, opened}, specs.Calls.{Certifies}}
use Rattle.zf_program.{specs.Certified.{certified_text, certified_status}, specs.Loaded.{HoldsFile, RefusesFile}}
use Rattle.zf_program.{specs.World.{ExposesInput, IsExposed, seen}, specs.Headline.{Behaves}}
use Rattle.zf_program.{proofs.Rungs.{refuses}, proofs.Exposed.{some_input, Takes-none}}
use Rattle.zf_program.proofs.Opening.{array_in-rate, header_said}
use Rattle.zf_program.proofs.Loading.{ComesFirst-index, Behaves-unopened, world_with, files_with, ExposesFiles-with, opened-held, IsLoading}
use Rattle.zf_program.specs.declared.status.Status.TheVariants as statuses

-- what is certified of whatever the stream says, where there was memory
pub certified_all : (w : Width) (h : Header) (m : ℕ) (r : Result Certified IndexFault) (answer : Result Said StreamFault) → w ≡ width_of h.ty → IfOk r (λ c. IfOk answer (λ said. c.plane ≡ plane_of w (length h.shape) said.codes))
    → IfOk r (λ c. c.error ≡ error_of (length h.shape) c.plane) → IfOk r (λ c. IsTrue c.holds ↔ IsSmallEnough (bits w) m c.error) → IfOk r (λ c. IfOk answer (λ said. c ≡ certified_of h said.codes m))
certified_all w h m _ answer same plane error holds = search rules

-- a good answer says something
pub said_good : (answer : Result Said StreamFault) → IsOk answer → (said : Said) × (answer ≡ Ok said)
said_good _ good = search rules

module _ (name : List ℕ) (most : ℕ) where
  pub IsLoading-bound : IsLoading (Bound name most) name array_in
  IsLoading-bound = search (rules, refuses)

  -- the file is refused with this status
  pub Certifies-refused : {B : Type 0} {O : Sink B} (bytes : List ℕ) (status : Status) (out : B) → RefusesFile status → ((src : Option (List ℕ)) (known now : Option Files) → HoldsFile known name bytes → KeepsFiles known now → Behaves (Bound name most) status (seen src (O.contents out) known) (seen src (O.contents out) now))
      → Certifies O name most bytes status out out
  Certifies-refused {O} bytes status out why behaves = search (rules, refuses, true≢false)

  -- the file is no stream
  pub Behaves-no_codes : (e : IndexFault) (bytes : List ℕ) (h : Header) (src out : Option (List ℕ)) (known now : Option Files) → HoldsFile known name bytes → KeepsFiles known now → HasHeader bytes h → IsRate h.mode → IsFault (parse bytes) (stream_fault e)
      → Behaves (Bound name most) (index_status e) (seen src out known) (seen src out now)
  Behaves-no_codes e bytes h src out known now holds kept has rate why =
      Behaves-unopened (Bound name most) name array_in IsLoading-bound (stream_fault e) bytes src out known now (ComesFirst-index e)
      (elim why [ inl is ↦ inl (array_in-rate bytes h (Err (stream_fault e)) has.good has.header rate is) | inr memory ↦ inr memory ]) holds kept

  module _ (bytes : List ℕ) (h : Header) (said : Said) (known now : Option Files) (holds : HoldsFile known name bytes) (kept : KeepsFiles known now) (has : HasHeader bytes h) (rate : IsRate h.mode) (parsed : parse bytes ≡ Ok said) where
    is_array : opened array_in (files_with known bytes name) ≡ Ok said
    is_array = opened-held array_in known name bytes holds ∙ array_in-rate bytes h (Ok said) has.good has.header rate parsed

    -- the line is that of the file
    line_is : (c : Certified) (line : List ℕ) → c ≡ certified_of h said.codes most → line ≡ bound_text c → line ≡ certified_text most (opened array_in (files_with known bytes name))
    line_is c line certified text =
        let header : h ≡ said.header = has.header ∙ sym (header_said bytes said parsed) in
        text ∙ (ap bound_text (certified ∙ ap (λ g. certified_of g said.codes most) header) ∙ sym (ap (certified_text most) is_array))

    -- some input and the file
    exposed_so : (src out : Option (List ℕ)) (some : (input : List ℕ) × ExposesInput src input)
        → IsExposed (seen src out known) (world_with known bytes some.0)
    exposed_so src out some = record { input = some.1; files = ExposesFiles-with known bytes }

    -- the line was written
    pub Behaves-certified : (c : Certified) (line : List ℕ) (src out out_now : Option (List ℕ)) → c ≡ certified_of h said.codes most → line ≡ bound_text c → Appends out out_now line
        → Behaves (Bound name most) statuses.Done (seen src out known) (seen src out_now now)
    Behaves-certified c line src out out_now certified text written =
        let input = some_input src in
        let exposed = exposed_so src out input in
        let stated = sym (ap certified_status is_array) in
        let all = subst (Appends out out_now) (line_is c line certified text) written in
        search (rules, Takes-none)

    -- a prefix of the line was
    pub Behaves-cut_certified : (c : Certified) (line : List ℕ) (src out out_now : Option (List ℕ)) → c ≡ certified_of h said.codes most → line ≡ bound_text c → AppendsPrefix out out_now line
        → Behaves (Bound name most) statuses.WriteFault (seen src out known) (seen src out_now now)
    Behaves-cut_certified c line src out out_now certified text written =
        let exposed = exposed_so src out (some_input src) in
        let is_open : IsOk (opened array_in (files_with known bytes name)) = subst IsOk (sym is_array) refl in
        let prefix = subst (AppendsPrefix out out_now) (line_is c line certified text) written in
        search (rules, Takes-none)
