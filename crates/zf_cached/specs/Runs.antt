-- The run of a script over a cached array, and the look at an array that is only read.
use Rattle.std.specs.Prelude.{ℕ, suc, ◌==◌, nat_le, ℤ, Bool, true, false, List, [], ◌∷◌, ◌++◌, length, slice_index_or, flat_map, Option, Some, None}
use Rattle.std.specs.Int.{Width}
use Rattle.std.specs.List.{slice_split, list_any}
use Rattle.std.specs.Option.{option_to_list}
use Rattle.zf_cached.specs.State.{State}
use Rattle.zf_cached.specs.Touch.{touch}
use Rattle.zf_cached.specs.Changes.{flush, opened, raised}
use Rattle.zf_cached.specs.Arrays.{Coding, plain_coding, rate_coding, array_format, zero_codes, open_array, saved_file, max_file, file_bytes}
use Rattle.zf_cached.specs.Windows.{whole}
use Rattle.zf_cached.specs.Commands.{Command}
use Rattle.zf_cached.specs.Kinds.{kind_of, is_reading}
use Rattle.zf_cached.specs.Replies.{Refusal, Reply, reply_text}
use Rattle.zf_cached.specs.Grammar.{read_line}
use Rattle.zf_cached.specs.Steps.{Setting, Session, format_of, joined, step}

-- the lines of a script end with a line feed, which the last one may lack
abbrev pub lines_of : List ℕ → List (List ℕ)
lines_of script = slice_split (λ b. b == 10) script

-- the step of a line as it is read: one that is no command, or none of these commands, is refused
unfoldable pub read_step : {Code : Type 0} → Setting Code → Session Code → Option Command → Bool
    → Session Code × Option Reply
read_step setting s None starving = (s, Some (Reply.refused Refusal.word))
read_step setting s (Some c) starving = elim (setting.allows c)
    [ true ↦ step setting s c starving | false ↦ (s, Some (Reply.refused Refusal.word)) ]

-- the step of a line; an empty one is skipped
unfoldable pub line_step : {Code : Type 0} → Setting Code → Session Code → List ℕ → Bool → Session Code
    × Option Reply
line_step setting s [] starving = (s, None)
line_step setting s (c ∷ cs) starving = read_step setting s (read_line (length s.shape) (c ∷ cs)) starving

-- the steps of lines one after the other, the first of them number k of the script, counted from 0, and their
-- replies; the lines with these numbers are out of memory
unfoldable pub run_lines : {Code : Type 0} → Setting Code → List ℕ → ℕ → List (List ℕ) → Session Code
    → Session Code × List Reply
run_lines setting starved k [] s = (s, [])
run_lines setting starved k (line ∷ lines) s =
    let one = line_step setting s line (list_any (λ n. n == k) starved) in
    let rest = run_lines setting starved (suc k) lines one.0 in
    (rest.0, option_to_list one.1 ++ rest.1)

-- a script from the whole window on
unfoldable pub run_script : {Code : Type 0} → Setting Code → List ℕ → List ℕ → State Code → List ℕ
    → Session Code × List Reply
run_script setting starved shape s script = run_lines setting starved 0 (lines_of script)
    (record { shape = shape; state = s; window = whole shape; split = None })

-- the end of a run: a split ends, and then there is a flush
unfoldable pub ended : {Code : Type 0} → Setting Code → Session Code → Session Code
ended setting s =
    let t = joined setting s in
    record t { state = flush (format_of setting t) t.state }

unfoldable pub run : {Code : Type 0} → Setting Code → List ℕ → List ℕ → State Code → List ℕ → Session Code
    × List Reply
run setting starved shape s script =
    let r = run_script setting starved shape s script in
    (ended setting r.0, r.1)

-- a look has no such end
unfoldable pub look : {Code : Type 0} → Setting Code → List ℕ → List ℕ → State Code → List ℕ → Session Code
    × List Reply
look setting starved shape s script = run_script setting starved shape s script

-- the text of replies
abbrev pub replies_text : List Reply → List ℕ
replies_text replies = flat_map reply_text replies

-- ---- the settings

-- a cached array of so many bits a block: every command
unfoldable pub array_setting : Width → ℕ → Setting (List Bool)
array_setting w budget = record {
  width = w;
  coding = rate_coding w budget;
  has_room = λ ns. nat_le (file_bytes w budget ns) max_file;
  touch = touch;
  allows = λ c. true;
}

-- an array whose values are kept as they are, of any size
unfoldable pub plain_setting : Width → Setting (List ℤ)
plain_setting w = record {
  width = w;
  coding = plain_coding;
  has_room = λ ns. true;
  touch = touch;
  allows = λ c. true;
}

-- the commands that only read
abbrev pub only_reads : Command → Bool
only_reads c = is_reading (kind_of c)

-- an array that is only read, in any coding
unfoldable pub look_setting : {Code : Type 0} → Width → Coding Code → Setting Code
look_setting w coding = record {
  width = w;
  coding = coding;
  has_room = λ ns. false;
  touch = touch;
  allows = only_reads;
}

-- ---- what a program writes

-- the text of the run of a script over an array with these codes, and the file that is saved
unfoldable pub run_text : Width → ℕ → List ℕ → List (List Bool) → ℕ → List ℕ → List ℕ → List ℕ
run_text w budget ns cs lines starved script = replies_text
    (run (array_setting w budget) starved ns (open_array w budget ns cs lines) script).1

unfoldable pub run_saved : Width → ℕ → List ℕ → List (List Bool) → ℕ → List ℕ → List ℕ → List ℕ
run_saved w budget ns cs lines starved script =
    let after = (run (array_setting w budget) starved ns (open_array w budget ns cs lines) script).0 in
    saved_file w budget after.shape after.state

-- the text of the look of a script at an array with these codes
unfoldable pub look_text : {Code : Type 0} → Width → Coding Code → List ℕ → List Code → ℕ → List ℕ → List ℕ
    → List ℕ
look_text w coding ns cs lines starved script =
    replies_text (look (look_setting w coding) starved ns
    (opened (array_format coding ns) (λ b. slice_index_or cs b coding.zero) (raised lines)) script).1

-- over an array of zeros, never out of memory
abbrev pub zeros_text : Width → ℕ → List ℕ → ℕ → List ℕ → List ℕ
zeros_text w budget ns lines script = run_text w budget ns (zero_codes budget ns) lines [] script

abbrev pub zeros_saved : Width → ℕ → List ℕ → ℕ → List ℕ → List ℕ
zeros_saved w budget ns lines script = run_saved w budget ns (zero_codes budget ns) lines [] script

-- over a plain array of zeros
abbrev pub plain_text : Width → List ℕ → ℕ → List ℕ → List ℕ
plain_text w ns lines script = replies_text (run (plain_setting w) [] ns
    (opened (array_format plain_coding ns) (λ b. []) (raised lines)) script).1
