-- Devices in memory. Their calls are numbered from 0; the number stands still at the last value of a `u64`,
-- as counts do.
use Rattle.std.specs.Prelude.{◌≡◌, ℕ, zero, suc, min, Bool, List, ◌++◌, length, drop, Some, Result}
use Rattle.std.specs.Option.{option_map}
use Rattle.std.specs.BTreeMap.{get_by_text}
use Rattle.zf_dev.specs.Faults.{next_count}
use Rattle.zf_dev.specs.Shelf.{AnswersFront, Files, KeepsFiles, AnswersFile, SavesWhole}
use Rattle.zf_dev.specs.declared.faults.LoadError.{LoadError}
use Rattle.zf_dev.specs.declared.mem_shelf.MemShelf.{MemShelf}

-- a source in memory
pub record SourceState : Type 0 where
  -- the bytes still to come
  pub left : List ℕ
  -- the numbers of the calls that fail
  pub fail : List ℕ
  -- the most bytes that one call gives
  pub piece : ℕ
  -- the number of the next call
  pub call : ℕ
  -- how many calls failed
  pub faults : ℕ
  -- how many calls saw the end: they gave no byte
  pub ends : ℕ

-- how many bytes a call gives where there is this much room
abbrev pub given_count : SourceState → ℕ → ℕ
given_count source room = min (min source.piece room) (length source.left)

-- how many calls saw the end after one that gave so many bytes
abbrev pub ends_after : ℕ → ℕ → ℕ
ends_after zero ends = next_count ends
ends_after (suc given) ends = ends

-- the source after a call that gave so many bytes
abbrev pub source_after_read : SourceState → ℕ → SourceState
source_after_read source count = record source {
  left = drop count source.left;
  call =
      next_count source.call;
  ends = ends_after count source.ends;
}

-- the source after a call that failed
abbrev pub source_after_fault : SourceState → SourceState
source_after_fault source = record source { call = next_count source.call; faults = next_count source.faults }

-- a sink in memory
pub record SinkState : Type 0 where
  -- the bytes written
  pub written : List ℕ
  -- the numbers of the calls that fail, whatever memory there is
  pub fail : List ℕ
  -- the most bytes that one call takes
  pub piece : ℕ
  -- the number of the next call
  pub call : ℕ
  -- how many calls failed
  pub faults : ℕ
  -- how many of these failed, as they were out of memory
  pub starved : ℕ

-- the sink after a call that took these bytes
abbrev pub sink_after_write : SinkState → List ℕ → SinkState
sink_after_write sink bytes = record sink { written = sink.written ++ bytes; call = next_count sink.call }

-- the sink after a flush that did not fail
abbrev pub sink_after_flush : SinkState → SinkState
sink_after_flush sink = record sink { call = next_count sink.call }

-- the sink after a call that failed because of its number
abbrev pub sink_after_fault : SinkState → SinkState
sink_after_fault sink = record sink { call = next_count sink.call; faults = next_count sink.faults }

-- the sink after a call that failed, out of memory
abbrev pub sink_after_starving : SinkState → SinkState
sink_after_starving sink = record sink {
  call = next_count sink.call;
  faults =
      next_count sink.faults;
  starved = next_count sink.starved;
}

-- what a shelf in memory holds: its files by name
abbrev pub shelf_files : MemShelf → Files
shelf_files shelf name = option_map (λ file. file.items) (get_by_text shelf.files name)

-- the numbers of its loads and saves that fail, whatever memory there is
abbrev pub shelf_fail : MemShelf → List ℕ
shelf_fail shelf = shelf.fail.items

-- the number of the next load or save
abbrev pub shelf_call : MemShelf → ℕ
shelf_call shelf = shelf.call

-- how many loads and saves failed
abbrev pub shelf_faults : MemShelf → ℕ
shelf_faults shelf = shelf.faults

-- how many of these, all of them saves, failed, out of memory
abbrev pub shelf_starved : MemShelf → ℕ
shelf_starved shelf = shelf.starved

-- one more load or save was counted, and so many faults, and faults out of memory
pub record Counts (before now : MemShelf) (faults starved : ℕ) : Type 0 where
  pub fail : shelf_fail now ≡ shelf_fail before
  pub call : shelf_call now ≡ next_count (shelf_call before)
  pub faults_are : shelf_faults now ≡ faults
  pub starved_are : shelf_starved now ≡ starved

-- a load or save that did not fail
abbrev pub CountsCall : MemShelf → MemShelf → Type 0
CountsCall before now = Counts before now (shelf_faults before) (shelf_starved before)

-- one that failed because of its number
abbrev pub CountsFault : MemShelf → MemShelf → Type 0
CountsFault before now = Counts before now (next_count (shelf_faults before)) (shelf_starved before)

-- one that failed, out of memory
abbrev pub CountsStarved : MemShelf → MemShelf → Type 0
CountsStarved before now = Counts before now (next_count (shelf_faults before))
    (next_count (shelf_starved before))

-- a look at the first bytes of this name, which is not counted among the calls, and never fails
pub record Fronts (before : MemShelf) (name : List ℕ) (count : ℕ) (answer : Result (List ℕ) LoadError)
    (now : MemShelf) : Type 0 where
  pub same : now ≡ before
  pub answered : AnswersFront (Some (shelf_files before)) name count answer

-- a load of this name, which answered its file or an error: one more call is counted, and no file changes
pub record Loads (before : MemShelf) (name : List ℕ) (answer : Result (List ℕ) LoadError) (now : MemShelf)
    : Type 0 where
  pub call : shelf_call now ≡ next_count (shelf_call before)
  pub answered : AnswersFile (Some (shelf_files before)) name answer
  pub files : KeepsFiles (Some (shelf_files before)) (Some (shelf_files now))

-- a save of these bytes under this name: one more call is counted, and where it was not well, no file changes
pub record Saves (before : MemShelf) (name bytes : List ℕ) (ok : Bool) (now : MemShelf) : Type 0 where
  pub call : shelf_call now ≡ next_count (shelf_call before)
  pub files : SavesWhole (Some (shelf_files before)) (Some (shelf_files now)) name bytes ok
