-- What a command does that loads a file, as far as the load and what the file is opened as.
use Rattle.std.proofs.Common.{rules, ◌≡◌, ℕ, suc, ◌≤◌, ◌<◌, cond, List, [], length, Option, Some, None, Result, Err, ◌⊎◌, inl, inr, refl, ap, ◌∙◌, arith}
use Rattle.std.{specs.Prelude.{replicate}, proofs.lemmas.Bool.{lt-ltb, le-ltb}}
use Rattle.std.proofs.lemmas.List.{length-replicate}
use Rattle.zf_dev.specs.Shelf.{Files, HasFile, HasLongFile, ExplainsLoad, KeepsFiles}
use Rattle.zf_dev.specs.declared.faults.LoadError.{LoadError}
use Rattle.zf_dev.specs.declared.faults.LoadError.TheVariants as loading
use Rattle.zf_parse.{specs.declared.fault.StreamFault.{StreamFault}, specs.Parsing.{Said}}
use Rattle.zf_parse.specs.declared.fault.StreamFault.TheVariants as faults
use Rattle.zf_index.specs.declared.fault.IndexFault.{IndexFault}
use Rattle.zf_words.specs.declared.command.Command.{Command}
use Rattle.zf_program.specs.declared.status.Status.{Status}
use Rattle.zf_program.{specs.Faults.{fault_status, load_status, index_status}, specs.Opened.{opened}}
use Rattle.zf_program.{specs.Loaded.{HoldsFile}, specs.World.{World, ExposesInput, ExposesFiles, seen}}
use Rattle.zf_program.{specs.Answer.{meaning, cut_draft, MayFail, OfUsed}, proofs.Ends.{FileEnds}}
use Rattle.zf_program.specs.Headline.{IsOfCommand, Writes, Saves, Behaves}
use Rattle.zf_program.proofs.Exposed.{files_of, files_of-none, ExposesFiles-same, some_input}
use Rattle.zf_program.specs.declared.status.Status.TheVariants as statuses

-- ---- statuses that come before anything is read or written

abbrev pub ComesFirst : Status → Type 0
ComesFirst (statuses.NotRate m) = Unit {0}
ComesFirst status = FileEnds status

-- what holds of all of them
pub by_first : (P : Status → Type 0) → P statuses.Missing → P statuses.FileLong → P statuses.LoadFault → ((f : _) → P (statuses.Header f)) → ((b : ℕ) → P (statuses.Truncated b)) → P statuses.Pad → P statuses.Trailing → P statuses.Memory
    → ((m : ℕ) → P (statuses.NotRate m)) → (status : Status) → ComesFirst status → P status
by_first P missing long load header truncated pad trailing memory no_rate statuses.Missing first = missing
by_first P missing long load header truncated pad trailing memory no_rate status first = search rules

-- no fault of an index is one of a device, and each comes before anything is read
pub ComesFirst-index : (e : IndexFault) → ComesFirst (index_status e)
ComesFirst-index e = search rules

IsOfCommand-first : (status : Status) → ComesFirst status → IsOfCommand status
IsOfCommand-first = by_first IsOfCommand tt tt tt (λ f. tt) (λ b. tt) tt tt tt (λ m. tt)

-- nothing was written
Writes-first : (text : List ℕ) (out : Option (List ℕ)) (status : Status) → ComesFirst status → Writes status text (cut_draft status text) out out
Writes-first text out = search (rules, by_first)

-- after these statuses all files are as they were
abbrev pub Unsaved : Status → Type 0
Unsaved statuses.Done = ⊥
Unsaved (statuses.Lines n) = ⊥
Unsaved statuses.SaveFault = ⊥
Unsaved status = Unit {0}

pub Saves-unsaved : (file : Option (List ℕ × List ℕ)) (status : Status) (before now : Option Files) → Unsaved status → KeepsFiles before now → Saves file status before now
Saves-unsaved _ status before now un kept = search rules

Unsaved-first : (status : Status) → ComesFirst status → Unsaved status
Unsaved-first = by_first Unsaved tt tt tt (λ f. tt) (λ b. tt) tt tt tt (λ m. tt)

-- ---- shelves

-- what is saved of files that were kept before is saved of those
pub Saves-kept : (file : Option (List ℕ × List ℕ)) (status : Status) (before mid now : Option Files) → KeepsFiles before mid → Saves file status mid now → Saves file status before now
Saves-kept _ status before mid now kept saves = search rules

-- the files that are exposed, or else these bytes under each name
pub files_with : Option Files → List ℕ → Files
files_with None bytes name = Some bytes
files_with (Some files) bytes name = files name

-- a world of these files
abbrev pub world_with : Option Files → List ℕ → List ℕ → World
world_with known bytes input = record { input = input; files = files_with known bytes }

pub ExposesFiles-with : (known : Option Files) (bytes : List ℕ) → ExposesFiles known (files_with known bytes)
unfolding files_with
ExposesFiles-with _ bytes = search rules

pub found_with : (known : Option Files) (name bytes : List ℕ) → HasFile known name bytes → files_with known bytes name ≡ Some bytes
unfolding files_with
found_with _ name bytes held = search rules

-- a list of more bytes than these
long_list : (n : ℕ) → (bytes : List ℕ) × (n < length bytes)
long_list n = (replicate (suc n) 0, omega (arith, length-replicate {A = ℕ} (suc n) 0))

module _ (reading : List ℕ → Result Said Status) where
  -- what a file that is not too long is opened as
  opened-file : (file : Option (List ℕ)) (bytes : List ℕ) → file ≡ Some bytes → length bytes ≤ 1200000000 → opened reading file ≡ reading bytes
  opened-file file bytes is size = ap (opened reading) is ∙ ap (λ long. cond long (Err statuses.FileLong) (reading bytes)) (le-ltb 1200000000 (length bytes) size)

  opened-long : (file : Option (List ℕ)) (bytes : List ℕ) → file ≡ Some bytes → 1200000000 < length bytes → opened reading file ≡ Err statuses.FileLong
  opened-long file bytes is long = ap (opened reading) is ∙ ap (λ t. cond t (Err statuses.FileLong) (reading bytes)) (lt-ltb 1200000000 (length bytes) long)

  -- the file that was loaded is opened as its bytes say
  pub opened-held : (known : Option Files) (name bytes : List ℕ) → HoldsFile known name bytes → opened reading (files_with known bytes name) ≡ reading bytes
  opened-held known name bytes holds = opened-file (files_with known bytes name) bytes (found_with known name bytes holds.held) holds.size

-- ---- the command

-- a command that loads the file of this name, and does no more where it is not opened
pub record IsLoading (c : Command) (name : List ℕ) (reading : List ℕ → Result Said Status) : Type 0 where
  pub refuses : (w : World) (status : Status) → opened reading (w.files name) ≡ Err status → status ≡ (meaning c).status w []
  pub starved_are : (w : World) (status : Status) → ComesFirst status → (meaning c).starved_are status w []
  pub extent : (input : List ℕ) (status : Status) → ComesFirst status → (meaning c).extent status input []
  pub draft : (w : World) (status : Status) (taken : List ℕ) → (meaning c).draft status ((meaning c).text w [] taken) ≡ cut_draft status ((meaning c).text w [] taken)
  pub loads : (w : World) → OfUsed (meaning c).loads (Unit {0})
  pub starves : (w : World) → (meaning c).memory w

module _ (c : Command) (name : List ℕ) (reading : List ℕ → Result Said Status) (is : IsLoading c name reading) where
  -- nothing was done but a load: this status with the files of this world
  idle : (status : Status) (src out : Option (List ℕ)) (before now : Option Files) (input : List ℕ) (files : Files) → ComesFirst status → ExposesInput src input → ExposesFiles before files
      → (status ≡ (meaning c).status (record { input = input; files = files }) []) ⊎ MayFail status c (record { input = input; files = files })
      → KeepsFiles before now → Behaves c status (seen src out before) (seen src out now)
  idle status src out before now input files first exposed_input exposed_files stated kept = search (rules, IsOfCommand-first, Writes-first, Saves-unsaved, Unsaved-first)

  -- there was no memory
  pub Behaves-starved : (src out : Option (List ℕ)) (known now : Option Files) → KeepsFiles known now → Behaves c statuses.Memory (seen src out known) (seen src out now)
  Behaves-starved src out known now kept =
      let some = some_input src in
      idle statuses.Memory src out known now some.0 (files_of known) tt some.1 (ExposesFiles-same known) (inr (is.starves (record { input = some.0; files = files_of known }))) kept

  -- the file was not loaded
  pub Behaves-unloaded : (e : LoadError) (src out : Option (List ℕ)) (before now : Option Files) → ExplainsLoad before name 1200000000 e → KeepsFiles before now → Behaves c (load_status e) (seen src out before) (seen src out now)
  Behaves-unloaded loading.Missing src out before now lacks kept =
      let some = some_input src in
      let w : World = record { input = some.0; files = files_of before } in
      idle statuses.Missing src out before now some.0 (files_of before) tt some.1 (ExposesFiles-same before) (inl (is.refuses w statuses.Missing (ap (opened reading) (files_of-none before name lacks)))) kept
  Behaves-unloaded loading.Long src out before now long kept =
      let some = some_input src in
      let found = long_in before long in
      let w : World = record { input = some.0; files = found.0 } in
      idle statuses.FileLong src out before now some.0 found.0 tt some.1 found.1 (inl (is.refuses w statuses.FileLong found.2)) kept
    where
      long_in : (known : Option Files) → HasLongFile known name 1200000000 → (files : Files) × ExposesFiles known files × (opened reading (files name) ≡ Err statuses.FileLong)
      long_in None long = let l = long_list 1200000000 in ((λ other. Some l.0), tt, opened-long reading (Some l.0) l.0 refl l.1)
      long_in (Some files) long = (files, (λ other. refl), opened-long reading (files name) long.0 long.1 long.2)
  Behaves-unloaded loading.Failed src out before now any kept =
      let some = some_input src in
      let w : World = record { input = some.0; files = files_of before } in
      idle statuses.LoadFault src out before now some.0 (files_of before) tt some.1 (ExposesFiles-same before) (inr (is.loads w)) kept
  Behaves-unloaded loading.Memory src out before now any kept = Behaves-starved src out before now kept

  -- the file is not opened
  pub Behaves-refused : (status : Status) (bytes : List ℕ) (src out : Option (List ℕ)) (known now : Option Files) → ComesFirst status → reading bytes ≡ Err status → HoldsFile known name bytes → KeepsFiles known now
      → Behaves c status (seen src out known) (seen src out now)
  Behaves-refused status bytes src out known now first none holds kept =
      let some = some_input src in
      let w = world_with known bytes some.0 in
      idle status src out known now some.0 (files_with known bytes) first some.1 (ExposesFiles-with known bytes) (inl (is.refuses w status (opened-held reading known name bytes holds ∙ none))) kept

  -- it is not opened for this fault, or there was no memory
  pub Behaves-unopened : (e : StreamFault) (bytes : List ℕ) (src out : Option (List ℕ)) (known now : Option Files) → ComesFirst (fault_status e) → (reading bytes ≡ Err (fault_status e)) ⊎ (e ≡ faults.Memory)
      → HoldsFile known name bytes → KeepsFiles known now → Behaves c (fault_status e) (seen src out known) (seen src out now)
  Behaves-unopened e bytes src out known now first why holds kept = search (rules, Behaves-refused, Behaves-starved)
