-- What `sample` does: nothing is read, a line is written, and no file is saved.
use Rattle.std.proofs.Common.{rules, ◌≡◌, ℕ, List, [], Option, ◌⊎◌, inl, inr, refl, subst, ◌∙◌, ap}
use Rattle.zf_dev.{specs.Shelf.{Files}, specs.Sink.{Appends, AppendsPrefix}}
use Rattle.zf_dev.proofs.Appending.{AppendsPrefix-none}
use Rattle.zf_header.specs.declared.header.Header.{Header}
use Rattle.zf_sample.{specs.declared.summary.Summary.{Summary}, specs.Summaries.{summary_of}}
use Rattle.zf_words.specs.declared.command.Command.TheVariants.{Sample}
use Rattle.zf_program.specs.declared.status.Status.{Status}
use Rattle.zf_program.{specs.Sample.{summary_line, sample_text}, specs.World.{World, seen}}
use Rattle.zf_program.{specs.Answer.{meaning, MayFail, cut_draft}, specs.Headline.{IsOfCommand, Writes, Behaves}}
use Rattle.zf_program.proofs.Exposed.{world_of, ExposesFiles-same, KeepsFiles-none, some_input, Takes-none}
use Rattle.zf_program.specs.declared.status.Status.TheVariants as statuses

module _ (h : Header) (seed : ℕ) where
  -- so it ended, with this output
  behaves_so : (status : Status) (src before now : Option (List ℕ)) (shelf : Option Files) → IsOfCommand status
      → ((w : World) → (status ≡ (meaning (Sample h seed)).status w []) ⊎ MayFail status (Sample h seed) w)
      → Writes status (sample_text h seed) (cut_draft status (sample_text h seed)) before now
      → Behaves (Sample h seed) status (seen src before shelf) (seen src now shelf)
  behaves_so status src before now shelf ends stated written =
      let stated_so = stated (world_of (some_input src).0 shelf) in
      search (rules, some_input, ExposesFiles-same, Takes-none, KeepsFiles-none)

  -- the line was written
  pub Behaves-summary : (summary : Summary) (line : List ℕ) (src before now : Option (List ℕ)) (shelf : Option Files) → summary ≡ summary_of h seed → line ≡ summary_line summary → Appends before now line
      → Behaves (Sample h seed) statuses.Done (seen src before shelf) (seen src now shelf)
  Behaves-summary summary line src before now shelf of_values of_summary written =
      behaves_so statuses.Done src before now shelf tt (λ w. inl refl) (subst (Appends before now) (of_summary ∙ ap summary_line of_values) written)

  -- a prefix of the line was
  pub Behaves-cut_summary : (summary : Summary) (line : List ℕ) (src before now : Option (List ℕ)) (shelf : Option Files) → summary ≡ summary_of h seed → line ≡ summary_line summary → AppendsPrefix before now line
      → Behaves (Sample h seed) statuses.WriteFault (seen src before shelf) (seen src now shelf)
  Behaves-cut_summary summary line src before now shelf of_values of_summary written =
      behaves_so statuses.WriteFault src before now shelf tt (λ w. inr tt) (subst (AppendsPrefix before now) (of_summary ∙ ap summary_line of_values) written)

  -- there was no memory
  pub Behaves-unmade : (src out : Option (List ℕ)) (shelf : Option Files) → Behaves (Sample h seed) statuses.Memory (seen src out shelf) (seen src out shelf)
  Behaves-unmade src out shelf = behaves_so statuses.Memory src out out shelf tt (λ w. inr tt) (AppendsPrefix-none out [])
