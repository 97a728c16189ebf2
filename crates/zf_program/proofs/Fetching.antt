-- A file that is fetched, or not.
use Rattle.std.proofs.Common.{◌≡◌, ◌≢◌, ℕ, ◌≤◌, false, List, length, Option, Some, None, Result, Err, inl, inr, refl, sym, ap, subst, ◌∙◌, arith}
use Rattle.zf_dev.{specs.Shelf.{Files, HasFront, KeepsFiles}, specs.declared.faults.LoadError.{LoadError}}
use Rattle.zf_dev.specs.declared.faults.LoadError.TheVariants as loading
use Rattle.zf_header.{specs.declared.header.HeaderFault.{HeaderFault}, specs.HeaderFaults.{header_fault}, proofs.First.{header_fault-first}}
use Rattle.zf_parse.specs.Parsing.{Said}
use Rattle.zf_words.{specs.declared.command.Command.{Command}, specs.declared.command.Access.{Access}}
use Rattle.zf_program.specs.declared.status.Status.{Status}
use Rattle.zf_program.specs.declared.status.Status.TheVariants.{Header, SaveFault, ReadFault, WriteFault}
use Rattle.zf_words.specs.declared.command.Access.TheVariants.{Run, Look}
use Rattle.zf_program.{specs.Faults.{load_status}, specs.Statuses.{is_work_done}, specs.World.{seen, counts}}
use Rattle.zf_program.{specs.Headline.{Behaves, HasCauses}, specs.Fetching.{LacksHeader, IsUnfetched}, specs.Accesses.{reading_of}}
use Rattle.zf_program.{proofs.Loading.{ComesFirst, by_first, IsLoading, Behaves-unloaded, Behaves-refused}, proofs.Causes.{HasCauses-refused}}
use Rattle.zf_program.proofs.Opening.{array_in-header, stream_in-header}

-- first bytes with a fault are those of a file with this fault
pub LacksHeader-front : (known : Option Files) (name bytes : List ℕ) (f : HeaderFault) → HasFront known name 1200000000 19 bytes → length bytes ≤ 19 → Some f ≡ header_fault bytes → LacksHeader known name (Header f)
LacksHeader-front None name bytes f front few bad = record { bytes = bytes; holds = record { held = tt; size = omega (arith, few) }; fault = f; bad = sym bad; is = refl }
LacksHeader-front (Some files) name bytes f front few bad = record {
  bytes = front.0;
  holds = record { held = front.1; size = front.2 };
  fault = f;
  bad = sym (header_fault-first front.0) ∙ (ap header_fault (sym front.3) ∙ sym bad);
  is = refl;
}

-- ---- a file that was not fetched

load_first : (e : LoadError) → ComesFirst (load_status e)
load_first loading.Missing = tt
load_first e = tt

unfetched_first : (known : Option Files) (name : List ℕ) (status : Status) → IsUnfetched known name status → ComesFirst status
unfetched_first known name status (inl u) = subst ComesFirst (sym u.is) (load_first u.error)
unfetched_first known name status (inr u) = subst ComesFirst (sym u.is) tt

-- what holds of each status that comes first
module _ {P : Status → Type 0} where
  pub by_unfetched : ((status : Status) → ComesFirst status → P status) → (known : Option Files) (name : List ℕ) (status : Status) → IsUnfetched known name status → P status
  by_unfetched p known name status u = p status (unfetched_first known name status u)

first_undone : (status : Status) → ComesFirst status → is_work_done status ≡ false
first_undone = by_first (λ s. is_work_done s ≡ false) refl refl refl (λ f. refl) (λ b. refl) refl refl refl (λ m. refl)

first_unsaved : (status : Status) → ComesFirst status → status ≢ SaveFault
first_unsaved = by_first (λ s. s ≢ SaveFault) (λ is. cc) (λ is. cc) (λ is. cc) (λ f is. cc) (λ b is. cc) (λ is. cc) (λ is. cc) (λ is. cc) (λ m is. cc)

first_unread : (status : Status) → ComesFirst status → status ≢ ReadFault
first_unread = by_first (λ s. s ≢ ReadFault) (λ is. cc) (λ is. cc) (λ is. cc) (λ f is. cc) (λ b is. cc) (λ is. cc) (λ is. cc) (λ is. cc) (λ m is. cc)

first_unwritten : (status : Status) → ComesFirst status → status ≢ WriteFault
first_unwritten = by_first (λ s. s ≢ WriteFault) (λ is. cc) (λ is. cc) (λ is. cc) (λ f is. cc) (λ b is. cc) (λ is. cc) (λ is. cc) (λ is. cc) (λ m is. cc)

pub unfetched_undone : (known : Option Files) (name : List ℕ) (status : Status) → IsUnfetched known name status → is_work_done status ≡ false
unfetched_undone = by_unfetched first_undone

pub unfetched_unsaved : (known : Option Files) (name : List ℕ) (status : Status) → IsUnfetched known name status → status ≢ SaveFault
unfetched_unsaved = by_unfetched first_unsaved

pub HasCauses-unfetched : (c : Command) (known : Option Files) (name : List ℕ) (status : Status) (src out : ℕ) {Sure : Type 0} → IsUnfetched known name status → HasCauses c status (counts src out) (counts src out) Sure Sure
HasCauses-unfetched c known name status src out u =
    let first = unfetched_first known name status u in HasCauses-refused c status src out (first_unread status first) (first_unwritten status first)

-- a file without a header is opened as nothing
pub reading-header : (access : Access) (bytes : List ℕ) (f : HeaderFault) → header_fault bytes ≡ Some f → reading_of access bytes ≡ Err (Header f)
reading-header (Run caching) bytes f bad = array_in-header bytes f bad
reading-header (Look lines) bytes f bad = stream_in-header bytes f bad

-- nothing was done
pub Behaves-unfetched : (c : Command) (name : List ℕ) (reading : List ℕ → Result Said Status) → IsLoading c name reading → ((bytes : List ℕ) (f : HeaderFault) → header_fault bytes ≡ Some f → reading bytes ≡ Err (Header f)) → (status : Status) (src out : Option (List ℕ)) (known now : Option Files) → IsUnfetched known name status → KeepsFiles known now
    → Behaves c status (seen src out known) (seen src out now)
Behaves-unfetched c name reading is bad status src out known now (inl u) kept =
    subst (λ s. Behaves c s (seen src out known) (seen src out now)) (sym u.is) (Behaves-unloaded c name reading is u.error src out known now u.why kept)
Behaves-unfetched c name reading is bad status src out known now (inr u) kept =
    subst (λ s. Behaves c s (seen src out known) (seen src out now)) (sym u.is) (Behaves-refused c name reading is (Header u.fault) u.bytes src out known now tt (bad u.bytes u.fault u.bad) u.holds kept)
