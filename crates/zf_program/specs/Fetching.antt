-- How a command gets the bytes of a stream's file: it looks at the first ones, and where they are a header's it loads
-- the file.
use Rattle.std.specs.Prelude.{ℕ, ◌≡◌, ◌⊎◌, List, Option, Some, None, Result, Ok, Err, Vec, vec_items}
use Rattle.zf_dev.specs.Shelf.{Files, ExplainsLoad}
use Rattle.zf_dev.specs.declared.faults.LoadError.{LoadError}
use Rattle.zf_header.specs.declared.header.HeaderFault.{HeaderFault}
use Rattle.zf_header.specs.HeaderFaults.{header_fault}
use Rattle.zf_cached.specs.Arrays.{max_file}
use Rattle.zf_program.specs.declared.status.Status.{Status}
use Rattle.zf_program.specs.declared.status.Status.TheVariants.{Header}
use Rattle.zf_program.specs.Faults.{load_status}
use Rattle.zf_program.specs.Info.{header_bytes}
use Rattle.zf_program.specs.Loaded.{HoldsFile}

-- the bytes that a call answered, or its status
abbrev pub fetched : {Z : Type 0} → Result (Vec ℕ Z) Status → Result (List ℕ) Status
fetched (Ok bytes) = Ok (vec_items bytes)
fetched (Err status) = Err status

-- what a load answered, with the status of its error
abbrev pub file_or_status : Result (List ℕ) LoadError → Result (List ℕ) Status
file_or_status (Ok bytes) = Ok bytes
file_or_status (Err e) = Err (load_status e)

module _ {F : Type 0} (loads : F → List ℕ → Result (List ℕ) LoadError → F → Type 0) (name : List ℕ)
    (answer : Result (List ℕ) Status) (looked now : F) where
  -- behind first bytes with this fault nothing followed, and behind those with none a load
  abbrev pub FollowsFault : Option HeaderFault → Type 0
  FollowsFault (Some fault) = (answer ≡ Err (Header fault)) × (now ≡ looked)
  FollowsFault None = (file : Result (List ℕ) LoadError) × loads looked name file now
      × (answer ≡ file_or_status file)

  -- the same behind what a look answered
  abbrev pub FollowsLook : Result (List ℕ) LoadError → Type 0
  FollowsLook (Ok front) = FollowsFault (header_fault front)
  FollowsLook (Err e) = (answer ≡ Err (load_status e)) × (now ≡ looked)

-- one look at the first bytes of this file, one load where they are a header's, and nothing else; and the answer
pub record Fetches {F : Type 0} (fronts : F → List ℕ → ℕ → Result (List ℕ) LoadError → F → Type 0)
    (loads : F → List ℕ → Result (List ℕ) LoadError → F → Type 0) (before : F) (name : List ℕ)
    (answer : Result (List ℕ) Status) (now : F) : Type 0 where
  pub looked : F
  pub front : Result (List ℕ) LoadError
  pub look : fronts before name header_bytes front looked
  pub follows : FollowsLook loads name answer looked now front

-- the file was not loaded, as this status says
pub record IsUnloaded (known : Option Files) (name : List ℕ) (status : Status) : Type 0 where
  pub error : LoadError
  pub is : status ≡ load_status error
  pub why : ExplainsLoad known name max_file error

-- the file begins with no header, as this status says
pub record LacksHeader (known : Option Files) (name : List ℕ) (status : Status) : Type 0 where
  pub bytes : List ℕ
  pub holds : HoldsFile known name bytes
  pub fault : HeaderFault
  pub bad : header_fault bytes ≡ Some fault
  pub is : status ≡ Header fault

-- why a file was not fetched
abbrev pub IsUnfetched : Option Files → List ℕ → Status → Type 0
IsUnfetched known name status = IsUnloaded known name status ⊎ LacksHeader known name status
