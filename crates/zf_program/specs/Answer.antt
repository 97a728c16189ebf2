-- What a command is: one record a command, over a world of an input and files. A new command is one more.
use Rattle.std.specs.Prelude.{◌≡◌, ◌&&◌, Bool, true, false, ℕ, List, [], take, Option, Some, None, Result, IsOk}
use Rattle.zf_spec.specs.Grid.{IsShape}
use Rattle.zf_base.specs.declared.lane.Ty.TheVariants.{I32}
use Rattle.zf_header.specs.declared.header.Mode.TheVariants.{Rate}
use Rattle.zf_header.specs.HeaderBits.{IsMode, IsRate}
use Rattle.zf_header.specs.HeaderFaults.{header_fault}
use Rattle.zf_parse.specs.Raw.{compress_answer, stream_text}
use Rattle.zf_parse.specs.Parsing.{Said, restore_answer, restored_text}
use Rattle.zf_stream.specs.Headed.{prefix_room}
use Rattle.zf_narrow.specs.Texts.{narrow_text, compress_narrow_answer, restore_narrow_answer, narrow_restored}
use Rattle.zf_store.specs.Stored.{file_of, zeros}
use Rattle.zf_program.specs.declared.status.Status.{Status}
use Rattle.zf_program.specs.declared.status.Status.TheVariants as statuses
use Rattle.zf_words.specs.declared.command.Command.{Command}
use Rattle.zf_words.specs.declared.command.Command.TheVariants.{Compress, CompressNarrow, Restore, RestoreNarrow, Info, New, Run, Look, Bound, Sample}
use Rattle.zf_program.specs.Faults.{header_status, status_of, narrow_status_of}
use Rattle.zf_program.specs.World.{World}
use Rattle.zf_words.specs.Words.{IsLines, IsCaching}
use Rattle.zf_program.specs.Info.{header_bytes, TakesHeader, info_text}
use Rattle.zf_program.specs.Opened.{array_in, stream_in, opened}
use Rattle.zf_program.specs.Scripts.{Answering, TakesScript, reads_script, sees_script, OnScript, IsRunnable, run_answers, run_file, look_answers, script_status, script_text, saved_of, AreStarved}
use Rattle.zf_program.specs.Certified.{certified_text, certified_status}
use Rattle.zf_program.specs.Sample.{sample_text}

pub record Meaning : Type 1 where
  -- what it asks of its caller
  pub can_run : Type 0
  -- the status in this world; the list has the lines of the script that answered `! memory`
  pub status : World → List ℕ → Status
  -- these are the lines, after this status
  pub starved_are : Status → World → List ℕ → Type 0
  -- what is written where the whole work was done; the last list has the bytes that were read
  pub text : World → List ℕ → List ℕ → List ℕ
  -- after each other status a prefix of this much of the text
  pub draft : Status → List ℕ → List ℕ
  -- what is saved, and under which name
  pub saved : World → List ℕ → Option (List ℕ × List ℕ)
  -- how far the input was taken: the input, and what was taken of it
  pub extent : Status → List ℕ → List ℕ → Type 0
  -- it may have come to the source by this status
  pub reads : Status → Bool
  -- and may have seen the end of it
  pub sees_end : Status → Bool
  -- it reads its input to the end, where its work is done
  pub to_end : Bool
  -- the name of the file that it loads or saves
  pub name : List ℕ
  -- it uses these devices at all
  pub writes : Bool
  pub loads : Bool
  pub saves : Bool
  -- in this world it comes to the source; to the sink and to saving; and it takes memory
  pub opens : World → Type 0
  pub works : World → Type 0
  pub memory : World → Type 0

-- a line, or the replies to a script: a prefix is out only after a write fault
abbrev pub cut_draft : Status → List ℕ → List ℕ
cut_draft statuses.WriteFault text = text
cut_draft status text = []

-- of a stream nothing is out after out of memory, which comes before the first write
abbrev pub compress_draft : Status → List ℕ → List ℕ
compress_draft statuses.Memory text = []
compress_draft status text = text

-- nor are values of a stream, or after a fault of the header, or of its type
abbrev pub restore_draft : Status → List ℕ → List ℕ
restore_draft statuses.Memory text = []
restore_draft (statuses.Header fault) text = []
restore_draft statuses.NotNarrow text = []
restore_draft status text = text

-- the whole input was taken after Done; just the first bytes of a stream of another type
abbrev pub TakesStream : Status → List ℕ → List ℕ → Type 0
TakesStream statuses.Done input taken = taken ≡ input
TakesStream statuses.NotNarrow input taken = taken ≡ take prefix_room input
TakesStream status input taken = Unit {0}

-- by this status the source may have been told that it is read to its end
abbrev pub reads_on : Meaning → Status → Bool
reads_on m status = m.to_end && m.reads status

-- Done, with nothing read, written or saved; memory is taken
abbrev pub plain : Meaning
plain = record {
  can_run = Unit {0};
  status = λ w starved. statuses.Done;
  starved_are = λ status w starved. starved ≡ [];
  text = λ w starved taken. [];
  draft = cut_draft;
  saved = λ w starved. None;
  extent = λ status input taken. taken ≡ [];
  reads = λ status. false;
  sees_end = λ status. false;
  to_end = false;
  name = [];
  writes = false;
  loads = false;
  saves = false;
  opens = λ w. Unit {0};
  works = λ w. Unit {0};
  memory = λ w. Unit {0};
}

-- a stream is written of what is read, or values of a stream
abbrev pub streaming : Meaning
streaming = record plain { draft = compress_draft; extent = TakesStream; reads = λ s. true; sees_end = λ s. true; to_end = true; writes = true }

-- a script is answered so, over what a file is opened as
abbrev pub scripting : Answering → (World → Result Said Status) → Meaning
scripting answers file = record plain {
  status = λ w starved. script_status answers (file w) starved w.input;
  starved_are = λ status w starved. OnScript status (AreStarved answers (file w) starved w.input);
  text = λ w starved taken. script_text answers (file w) starved w.input;
  extent = TakesScript;
  reads = reads_script;
  sees_end = sees_script;
  to_end = true;
  writes = true;
  loads = true;
  opens = λ w. IsOk (file w);
  works = λ w. IsRunnable (file w) w;
}

abbrev pub meaning : Command → Meaning
meaning (Compress h) = record streaming {
  can_run = IsMode h.mode;
  status = λ w starved. status_of (compress_answer h w.input);
  text = λ w starved taken. stream_text h taken;
}
meaning (CompressNarrow n h) = record streaming {
  can_run = IsMode h.mode × (h.ty ≡ I32);
  status = λ w starved. status_of (compress_narrow_answer n h w.input);
  text = λ w starved taken. narrow_text n h taken;
}
meaning Restore = record streaming {
  status = λ w starved. status_of (restore_answer w.input);
  text = λ w starved taken. restored_text taken;
  draft = restore_draft;
  memory = λ w. header_fault w.input ≡ None;
}
meaning (RestoreNarrow n) = record streaming {
  status = λ w starved. narrow_status_of (restore_narrow_answer w.input);
  text = λ w starved taken. narrow_restored n taken;
  draft = restore_draft;
  memory = λ w. header_fault w.input ≡ None;
}
meaning Info = record plain {
  status = λ w starved. header_status (header_fault (take header_bytes w.input));
  text = λ w starved taken. info_text taken;
  extent = TakesHeader;
  reads = λ status. true;
  sees_end = λ status. true;
  writes = true;
  memory = λ w. ⊥;
}
meaning (New name ty ns b) = record plain {
  can_run = IsShape ns × IsRate (Rate b);
  saved = λ w starved. Some (name, file_of (zeros ty ns b));
  name = name;
  saves = true;
}
meaning (Run name caching) = record (scripting (run_answers caching) (λ w. opened array_in (w.files name))) {
  can_run = IsCaching caching;
  name = name;
  saved = λ w starved. saved_of name (run_file caching) (opened array_in (w.files name)) starved w.input;
  saves = true;
}
meaning (Look name lines) = record (scripting (look_answers lines) (λ w. opened stream_in (w.files name))) {
  can_run = IsLines lines;
  name = name;
}
meaning (Bound name most) = record plain {
  status = λ w starved. certified_status (opened array_in (w.files name));
  name = name;
  text = λ w starved taken. certified_text most (opened array_in (w.files name));
  writes = true;
  loads = true;
  works = λ w. IsOk (opened array_in (w.files name));
}
meaning (Sample h seed) = record plain {
  can_run = IsMode h.mode;
  text = λ w starved taken. sample_text h seed;
  writes = true;
}

-- this holds, of a device that is used
abbrev pub OfUsed : Bool → Type 0 → Type 0
OfUsed true P = P
OfUsed false P = ⊥

-- the statuses that no world determines: faults of the devices that a command comes to, and out of memory
-- where it takes any
abbrev pub MayFail : Status → Command → World → Type 0
MayFail statuses.ReadFault c w = OfUsed ((meaning c).reads statuses.ReadFault) ((meaning c).opens w)
MayFail statuses.WriteFault c w = OfUsed (meaning c).writes ((meaning c).works w)
MayFail statuses.LoadFault c w = OfUsed (meaning c).loads (Unit {0})
MayFail statuses.SaveFault c w = OfUsed (meaning c).saves ((meaning c).works w)
MayFail statuses.Memory c w = (meaning c).memory w
MayFail status c w = ⊥
