-- What the devices over the real things hold.
use Rattle.std.specs.Prelude.{ℕ, Bool, true, false, List, Option, Result, Err}
use Rattle.zf_dev.specs.Faults.{next_count}
use Rattle.zf_dev.specs.declared.faults.LoadError.{LoadError}
use Rattle.zf_dev.specs.declared.faults.LoadError.TheVariants.{Failed}
use Rattle.std.specs.Io.KnownBytes.{prepend_known, append_known}
use Rattle.zf_dev.specs.declared.real.RealSource.{RealSource}
use Rattle.zf_dev.specs.declared.real.RealSink.{RealSink}
use Rattle.zf_dev.specs.declared.real_shelf.RealShelf.{RealShelf}

-- the stream that a source reads, what it has read and not given, whether it reads ahead, and how many of its
-- reads failed, and how many saw the end
abbrev pub source_stream : {R : Type 0} → RealSource R → R
source_stream source = source.stream

abbrev pub source_held : {R : Type 0} → RealSource R → List ℕ
source_held source = source.held

abbrev pub source_ahead : {R : Type 0} → RealSource R → Bool
source_ahead source = source.ahead

abbrev pub source_faults : {R : Type 0} → RealSource R → ℕ
source_faults source = source.faults

abbrev pub source_ends : {R : Type 0} → RealSource R → ℕ
source_ends source = source.ends

-- the bytes still to come: those that are held, and then those of the stream
abbrev pub source_contents : {R : Type 0} → (R → Option (List ℕ)) → RealSource R → Option (List ℕ)
source_contents remaining source = prepend_known (source_held source) (remaining (source_stream source))

-- the stream that a sink writes, what it has taken and not handed on, and how many of its writes and flushes
-- failed
abbrev pub sink_stream : {W : Type 0} → RealSink W → W
sink_stream sink = sink.stream

abbrev pub sink_held : {W : Type 0} → RealSink W → List ℕ
sink_held sink = sink.held

abbrev pub sink_faults : {W : Type 0} → RealSink W → ℕ
sink_faults sink = sink.faults

-- the bytes written: those that the stream has, and then those that are held
abbrev pub sink_contents : {W : Type 0} → (W → Option (List ℕ)) → RealSink W → Option (List ℕ)
sink_contents contents sink = append_known (contents (sink_stream sink)) (sink_held sink)

-- how many loads and saves of a shelf failed
abbrev pub shelf_faults : {R : Type 0} → RealShelf R → ℕ
shelf_faults shelf = shelf.faults

-- the count of faults after a load that answered so, and after a save
abbrev pub count_of_load : Result (List ℕ) LoadError → ℕ → ℕ
count_of_load (Err Failed) count = next_count count
count_of_load answer count = count

abbrev pub count_of_save : Bool → ℕ → ℕ
count_of_save true count = count
count_of_save false count = next_count count
