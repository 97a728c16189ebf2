-- What `run` and `look` do with what a file is opened as and a script.
use Rattle.std.specs.Prelude.{◌≡◌, ℕ, zero, suc, ◌<◌, ◌≤◌, nat_lt, Bool, true, false, List, [], length, count_by, Option, Some, None, Result, Ok, Err, IsOk, if◌then◌else◌}
use Rattle.std.specs.Int.{Width}
use Rattle.zf_spec.specs.Grid.{blocks}
use Rattle.zf_base.specs.Widths.{width_of}
use Rattle.zf_header.specs.HeaderBits.{block_bits}
use Rattle.zf_parse.specs.Parsing.{Said}
use Rattle.zf_cached.specs.Changes.{default_lines}
use Rattle.zf_cached.specs.Arrays.{open_array, saved_file}
use Rattle.zf_cached.specs.Replies.{Reply}
use Rattle.zf_cached.specs.Steps.{Setting, Session}
use Rattle.zf_cached.specs.Windows.{whole}
use Rattle.zf_cached.specs.Runs.{array_setting, look_setting, lines_of, run, look, replies_text}
use Rattle.zf_twoway.specs.Runs.{twoway_setting}
use Rattle.zf_const.specs.Standing.{coding_of, open_stream}
use Rattle.zf_commands.specs.Sittings.{session}
use Rattle.zf_commands.specs.Runs.{starved_lines}
use Rattle.zf_commands.specs.Steps.{is_refusal}
use Rattle.zf_words.specs.declared.command.Caching.{Caching}
use Rattle.zf_words.specs.declared.command.Caching.TheVariants.{Direct, TwoWay}
use Rattle.zf_program.specs.declared.status.Status.{Status}
use Rattle.zf_program.specs.declared.status.Status.TheVariants as statuses
use Rattle.zf_program.specs.World.{World}

-- the most bytes of a script
abbrev pub max_script : ℕ
max_script = 16777216

-- the number of lines that is asked for, or else the one that suits the array
abbrev pub lines_for : Option ℕ → List ℕ → ℕ
lines_for (Some l) ns = l
lines_for None ns = default_lines (blocks ns)

-- what a run does not change about an array of values of this width and so many bits a block: the cache makes
-- the difference
abbrev pub setting_over : Caching → Width → ℕ → Setting (List Bool)
setting_over (Direct lines) w bits = array_setting w bits
setting_over (TwoWay l) w bits = twoway_setting w bits

-- how many lines the cache has at first
abbrev pub first_lines : Caching → List ℕ → ℕ
first_lines (Direct lines) ns = lines_for lines ns
first_lines (TwoWay l) ns = l

-- how a script is answered, by what the file says, the lines that found no memory, and the script: its
-- replies, and the numbers of the lines that say so
abbrev pub Answering : Type 0
Answering = Said → List ℕ → List ℕ → List Reply × List ℕ

-- the run of a script on an array: what it comes to, and the replies
unfoldable pub ran_over : Caching → Said → List ℕ → List ℕ → Session (List Bool) × List Reply
ran_over caching said starved script =
    let h = said.header in
    let w = width_of h.ty in
    let bits = block_bits h.mode in
    run (setting_over caching w bits) starved h.shape
    (open_array w bits h.shape said.codes (first_lines caching h.shape)) script

-- its lines that find no memory
unfoldable pub starved_over : Caching → Said → List ℕ → List ℕ → List ℕ
starved_over caching said starved script =
    let h = said.header in
    let w = width_of h.ty in
    let bits = block_bits h.mode in
    starved_lines (setting_over caching w bits) starved 0 (lines_of script)
    (session h.shape (open_array w bits h.shape said.codes (first_lines caching h.shape)) (whole h.shape))

-- how it is answered
abbrev pub run_answers : Caching → Answering
run_answers caching said starved script = (
  (ran_over caching said starved script).1,
  starved_over caching said
      starved script,
)

-- the file that is saved then
abbrev pub run_file : Caching → Said → List ℕ → List ℕ → List ℕ
run_file caching said starved script =
    let after = (ran_over caching said starved script).0 in
    saved_file (width_of said.header.ty) (block_bits said.header.mode) after.shape after.state

-- how it is answered where it looks at a stream
unfoldable pub look_answers : Option ℕ → Answering
look_answers lines said starved script =
    let h = said.header in
    let setting = look_setting (width_of h.ty) (coding_of h) in
    let s = open_stream h said.codes (lines_for lines h.shape) in (
      (look setting starved h.shape s script).1,
      starved_lines setting starved 0 (lines_of script)
          (session h.shape s (whole h.shape)),
    )

-- the status where so many lines are refused
abbrev pub lines_status : ℕ → Status
lines_status zero = statuses.Done
lines_status (suc n) = statuses.Lines (suc n)

-- the status of a script, where the file is opened so
abbrev pub script_status : Answering → Result Said Status → List ℕ → List ℕ → Status
script_status answers (Ok said) starved script =
    if nat_lt max_script (length script) then statuses.ScriptLong else lines_status
    (count_by is_refusal (answers said starved script).0)
script_status answers (Err status) starved script = status

-- its text
abbrev pub script_text : Answering → Result Said Status → List ℕ → List ℕ → List ℕ
script_text answers (Ok said) starved script = replies_text (answers said starved script).0
script_text answers (Err status) starved script = []

-- what a run saves, and under which name
abbrev pub saved_of : List ℕ → (Said → List ℕ → List ℕ → List ℕ) → Result Said Status → List ℕ → List ℕ
    → Option (List ℕ × List ℕ)
saved_of name file (Ok said) starved script = Some (name, file said starved script)
saved_of name file (Err status) starved script = None

-- the lines that were out of memory are just those that say so
abbrev pub AreStarved : Answering → Result Said Status → List ℕ → List ℕ → Type 0
AreStarved answers (Ok said) starved script = starved ≡ (answers said starved script).1
AreStarved answers (Err status) starved script = Unit {0}

-- a script is taken whole before its first line is run, and only once the file is opened
abbrev pub TakesScript : Status → List ℕ → List ℕ → Type 0
TakesScript statuses.Done input taken = taken ≡ input
TakesScript (statuses.Lines n) input taken = taken ≡ input
TakesScript statuses.WriteFault input taken = taken ≡ input
TakesScript statuses.SaveFault input taken = taken ≡ input
TakesScript statuses.ScriptLong input taken = max_script < length taken
TakesScript statuses.ReadFault input taken = Unit {0}
TakesScript statuses.Memory input taken = Unit {0}
TakesScript status input taken = taken ≡ []

-- by these statuses it may have been read
abbrev pub reads_script : Status → Bool
reads_script statuses.Done = true
reads_script (statuses.Lines n) = true
reads_script statuses.WriteFault = true
reads_script statuses.SaveFault = true
reads_script statuses.ScriptLong = true
reads_script statuses.ReadFault = true
reads_script statuses.Memory = true
reads_script status = false

-- by these the end of the script may have been seen: it is read to its end before its first line is run, so
-- after every other status no line was
abbrev pub sees_script : Status → Bool
sees_script statuses.Done = true
sees_script (statuses.Lines n) = true
sees_script statuses.WriteFault = true
sees_script statuses.SaveFault = true
sees_script status = false

-- this holds where lines of a script were run: all of them, or those up to the reply that was not written whole
abbrev pub OnScript : Status → Type 0 → Type 0
OnScript statuses.Done P = P
OnScript (statuses.Lines n) P = P
OnScript statuses.WriteFault P = P
OnScript statuses.SaveFault P = P
OnScript status P = Unit {0}

-- the file is opened so, and the input a script
abbrev pub IsRunnable : Result Said Status → World → Type 0
IsRunnable file w = IsOk file × (length w.input ≤ max_script)
