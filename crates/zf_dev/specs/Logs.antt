-- What passed a device, by its logs.
use Rattle.std.specs.Prelude.{◌≡◌, ℕ, Bool, true, false, List, [], ◌∷◌, ◌++◌, Result, Ok, Err}
use Rattle.zf_dev.specs.declared.faults.LoadError.{LoadError}
use Rattle.zf_dev.specs.declared.log.Log.{Log}
use Rattle.zf_dev.specs.declared.logged.LoggedSource.{LoggedSource}
use Rattle.zf_dev.specs.declared.logged.LoggedSink.{LoggedSink}
use Rattle.zf_dev.specs.declared.logged.LoggedShelf.{LoggedShelf}

-- what was noted at once: a name, and bytes
abbrev pub Entry : Type 0
Entry = List ℕ × List ℕ

-- there is no byte
abbrev pub is_empty : List ℕ → Bool
is_empty [] = true
is_empty bytes = false

-- the bytes of these entries, one behind the other
abbrev pub all_bytes : List Entry → List ℕ
all_bytes [] = []
all_bytes (e ∷ es) = e.1 ++ all_bytes es

-- the bytes that a log has
abbrev pub noted : Log → List ℕ
noted log = all_bytes log.entries

-- the last of these entries has no byte
abbrev pub ends_empty : List Entry → Bool
ends_empty [] = false
ends_empty (e ∷ []) = is_empty e.1
ends_empty (e ∷ es) = ends_empty es

-- the source below, the bytes that it gave, and whether the last read gave none
abbrev pub source_below : {S : Type 0} → LoggedSource S → S
source_below s = s.source

abbrev pub source_given : {S : Type 0} → LoggedSource S → List ℕ
source_given s = noted s.log

abbrev pub source_ended : {S : Type 0} → LoggedSource S → Bool
source_ended s = ends_empty s.log.entries

-- the sink below, and the bytes that it took
abbrev pub sink_below : {O : Type 0} → LoggedSink O → O
sink_below s = s.sink

abbrev pub sink_taken : {O : Type 0} → LoggedSink O → List ℕ
sink_taken s = noted s.log

-- the shelf below
abbrev pub shelf_below : {F : Type 0} → LoggedShelf F → F
shelf_below s = s.shelf

-- the names whose first bytes were looked at
abbrev pub shelf_looked : {F : Type 0} → LoggedShelf F → List Entry
shelf_looked s = s.looked.entries

-- the names that were asked for; of the files that came, the names and the bytes
abbrev pub shelf_asked : {F : Type 0} → LoggedShelf F → List Entry
shelf_asked s = s.asked.entries

abbrev pub shelf_loaded : {F : Type 0} → LoggedShelf F → List Entry
shelf_loaded s = s.loaded.entries

-- the names and the bytes of the saves that were begun; of those that were answered well
abbrev pub shelf_begun : {F : Type 0} → LoggedShelf F → List Entry
shelf_begun s = s.begun.entries

abbrev pub shelf_saved : {F : Type 0} → LoggedShelf F → List Entry
shelf_saved s = s.saved.entries

-- the file that a load answered, if any
abbrev pub file_of_load : List ℕ → Result (List ℕ) LoadError → List Entry
file_of_load name (Ok bytes) = (name, bytes) ∷ []
file_of_load name (Err e) = []

-- the file of a save that was answered so
abbrev pub file_of_save : List ℕ → List ℕ → Bool → List Entry
file_of_save name bytes true = (name, bytes) ∷ []
file_of_save name bytes false = []

-- one look at the first bytes of this name was noted, and no load and no save
pub record NotesFront {F : Type 0} (old : LoggedShelf F) (name : List ℕ) (new : LoggedShelf F) : Type 0 where
  pub looked : shelf_looked new ≡ shelf_looked old ++ (name, []) ∷ []
  pub asked : shelf_asked new ≡ shelf_asked old
  pub loaded : shelf_loaded new ≡ shelf_loaded old
  pub begun : shelf_begun new ≡ shelf_begun old
  pub saved : shelf_saved new ≡ shelf_saved old

-- one load of this name was noted, with the file that came, and no look and no save
pub record NotesLoad {F : Type 0} (old : LoggedShelf F) (name : List ℕ) (answer : Result (List ℕ) LoadError)
    (new : LoggedShelf F) : Type 0 where
  pub asked : shelf_asked new ≡ shelf_asked old ++ (name, []) ∷ []
  pub loaded : shelf_loaded new ≡ shelf_loaded old ++ file_of_load name answer
  pub begun : shelf_begun new ≡ shelf_begun old
  pub saved : shelf_saved new ≡ shelf_saved old
  pub looked : shelf_looked new ≡ shelf_looked old

-- one save of these bytes under this name was noted, and no look and no load
pub record NotesSave {F : Type 0} (old : LoggedShelf F) (name bytes : List ℕ) (ok : Bool)
    (new : LoggedShelf F) : Type 0 where
  pub begun : shelf_begun new ≡ shelf_begun old ++ (name, bytes) ∷ []
  pub saved : shelf_saved new ≡ shelf_saved old ++ file_of_save name bytes ok
  pub asked : shelf_asked new ≡ shelf_asked old
  pub loaded : shelf_loaded new ≡ shelf_loaded old
  pub looked : shelf_looked new ≡ shelf_looked old
