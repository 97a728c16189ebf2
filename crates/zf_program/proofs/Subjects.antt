-- What a script works on, as it is opened and run: for each target.
use Rattle.std.proofs.Common.{rules, ◌≡◌, ℕ, ℤ, Bool, List, Option, Some, None, Ok, refl, ap, sym, subst, ◌∙◌}
use Rattle.std.specs.Int.{Width}
use Rattle.zf_base.specs.Widths.{width_of}
use Rattle.zf_header.{specs.declared.header.Header.{Header}, specs.HeaderBits.{block_bits}}
use Rattle.zf_parse.{specs.Parsing.{parse}, specs.ReadStreams.{IsFault}}
use Rattle.zf_cached.{specs.Arrays.{open_array, saved_file}, specs.State.{State}, specs.Windows.{whole}}
use Rattle.zf_cached.specs.Steps.{Setting, Session}
use Rattle.zf_cached.specs.Runs.{lines_of, run_lines, run_script, run, look, ended}
use Rattle.zf_store.specs.Files as store
use Rattle.zf_store.specs.Stored.{Stored}
use Rattle.zf_index.specs.declared.fault.IndexFault.{IndexFault}
use Rattle.zf_index.specs.Files as stream
use Rattle.zf_array.specs.Standing as arrays
use Rattle.zf_const.specs.Standing as streams
use Rattle.zf_const.specs.Files as contents
use Rattle.zf_cache.specs.Kept.{Kept}
use Rattle.zf_commands.{specs.Sittings.{session}, specs.Runs.{starved_lines, RunsAll}}
use Rattle.zf_run.{specs.declared.end.RunEnd.{RunEnd}, specs.Pairs.{pair_state, two_setting_of}}
use Rattle.zf_run.specs.declared.end.RunEnd.TheVariants.{Done, Lines, Write}
use Rattle.zf_run.specs.Sessions.{setting_of, look_setting_of, look_start_of}
use Rattle.zf_run.specs.Ends.{Completes, Halts, IsEnd, Runs, Looks, RunsTwo}
use Rattle.zf_words.{specs.declared.command.Caching.{Caching}, specs.declared.command.Access.{Access}}
use Rattle.zf_words.specs.declared.command.Access.TheVariants.{Run, Look}
use Rattle.zf_program.specs.Faults.{index_status}
use Rattle.zf_program.{specs.declared.commands.target.Loaded.{Loaded}, specs.Subjects.{Subject, Ran}}
use Rattle.zf_program.specs.Scripts.{lines_for, first_lines, setting_over, ran_over, starved_over, run_file, look_answers}
use Rattle.zf_program.specs.Loaded.{IsAccessed, StandsFor, RefusesFile, IsRefused}
use Rattle.zf_program.proofs.Opening.{array_in-rate, stream_in-said}

-- ---- how a run ends

-- an array that is saved as its state says, of such a width and so many bits a block, whatever its setting
abbrev array_subject : Setting (List Bool) → Width → ℕ → List ℕ → State (List Bool) → Subject
array_subject setting w bits ns s = record {
  setting = setting;
  start = session ns s (whole ns);
  filed = λ t. Some (saved_file w bits t.shape t.state);
}

module _ (setting : Setting (List Bool)) (w : Width) (bits : ℕ) (ns ns_now : List ℕ) (s s_now : State (List Bool)) (script starved : List ℕ) (old new : Option (List ℕ)) where
  last : Session (List Bool)
  last = (run_lines setting starved 0 (lines_of script) (session ns s (whole ns))).0

  all_ran : (n : ℕ) → Completes ns_now s_now starved old new setting (session ns s (whole ns)) script (run setting starved ns s script) n
      → RunsAll setting starved script (session ns s (whole ns)) last old new n × (Some (saved_file w bits ns_now s_now) ≡ Some (saved_file w bits (ended setting last).shape (ended setting last).state))
  unfolding run run_script last
  all_ran n done = search (rules, last)

-- a run over an array or over codes, by its end
Ran-array : (setting : Setting (List Bool)) (w : Width) (bits : ℕ) (ns ns_now : List ℕ) (s s_now : State (List Bool)) (script starved : List ℕ) (old new : Option (List ℕ)) (end : RunEnd)
    → IsEnd (Completes ns_now s_now starved old new setting (session ns s (whole ns)) script (run setting starved ns s script)) (Halts ns_now s_now starved old new setting (session ns s (whole ns)) script) end
    → Ran (array_subject setting w bits ns s) script old new (Some (saved_file w bits ns_now s_now)) end
Ran-array setting w bits ns ns_now s s_now script starved old new Done is =
    record { starved = starved; last = last setting w bits ns ns_now s s_now script starved old new; how = all_ran setting w bits ns ns_now s s_now script starved old new 0 is }
Ran-array setting w bits ns ns_now s s_now script starved old new (Lines n) is =
    record { starved = starved; last = last setting w bits ns ns_now s s_now script starved old new; how = (is.0, all_ran setting w bits ns ns_now s s_now script starved old new n is.1) }
Ran-array setting w bits ns ns_now s s_now script starved old new Write is = record { starved = starved; last = is.session; how = is.at_line }

pub Ran-direct : (w : Width) (a b : arrays.Held) (script : List ℕ) (old new : Option (List ℕ)) (end : RunEnd) → Runs w a b script old new end
    → Ran (array_subject (setting_of w a) w (block_bits a.header.mode) (arrays.shape a) (arrays.state a)) script old new (Some (saved_file w (block_bits b.header.mode) (arrays.shape b) (arrays.state b))) end
Ran-direct w a b script old new end ran =
    subst (λ m. Ran (array_subject (setting_of w a) w (block_bits a.header.mode) (arrays.shape a) (arrays.state a)) script old new (Some (saved_file w (block_bits m) (arrays.shape b) (arrays.state b))) end) (sym (ap (λ (q : _). q.1) ran.stays))
    (Ran-array (setting_of w a) w (block_bits a.header.mode) (arrays.shape a) (arrays.shape b) (arrays.state a) (arrays.state b) script ran.starved old new end ran.ended)

pub Ran-two : {X : Type 0} (value : X → ℤ) (w : Width) (s t : Stored) (c d : Kept X) (script : List ℕ) (old new : Option (List ℕ)) (end : RunEnd) → RunsTwo value w s t c d script old new end
    → Ran (array_subject (two_setting_of w s.header) w (block_bits s.header.mode) s.header.shape (pair_state value s c)) script old new (Some (saved_file w (block_bits t.header.mode) t.header.shape (pair_state value t d))) end
Ran-two value w s t c d script old new end ran =
    subst (λ (h : Header). Ran (array_subject (two_setting_of w s.header) w (block_bits s.header.mode) s.header.shape (pair_state value s c)) script old new (Some (saved_file w (block_bits h.mode) t.header.shape (pair_state value t d))) end) (sym ran.stays.0)
    (Ran-array (two_setting_of w s.header) w (block_bits s.header.mode) s.header.shape t.header.shape (pair_state value s c) (pair_state value t d) script ran.starved old new end ran.ended)

-- a look
abbrev stream_subject : Width → streams.Held → Subject
stream_subject w a = record { setting = look_setting_of w a.header; start = look_start_of a; filed = λ s. None }

module _ (w : Width) (a b : streams.Held) (script starved : List ℕ) (old new : Option (List ℕ)) where
  seen_last : Session (List Bool)
  seen_last = (run_lines (look_setting_of w a.header) starved 0 (lines_of script) (look_start_of a)).0

  all_seen : (n : ℕ) → Completes (streams.shape b) (streams.state b) starved old new (look_setting_of w a.header) (look_start_of a) script (look (look_setting_of w a.header) starved (streams.shape a) (streams.state a) script) n
      → RunsAll (look_setting_of w a.header) starved script (look_start_of a) seen_last old new n × (None ≡ (stream_subject w a).filed (ended (look_setting_of w a.header) seen_last))
  unfolding look run_script seen_last
  all_seen n done = (record { session = refl; starved_are = done.starved_are; refused_is = done.refused_is; written = done.written }, refl)

pub Ran-look : (w : Width) (a b : streams.Held) (script : List ℕ) (old new : Option (List ℕ)) (end : RunEnd) → Looks w a b script old new end → Ran (stream_subject w a) script old new None end
Ran-look w a b script old new Done ran = record { starved = ran.starved; last = seen_last w a b script ran.starved old new; how = all_seen w a b script ran.starved old new 0 ran.ended }
Ran-look w a b script old new (Lines n) ran = record { starved = ran.starved; last = seen_last w a b script ran.starved old new; how = (ran.ended.0, all_seen w a b script ran.starved old new n ran.ended.1) }
Ran-look w a b script old new Write ran = record { starved = ran.starved; last = ran.ended.session; how = ran.ended.at_line }

-- ---- how a file is opened

module _ (caching : Caching) (w : Width) (bytes : List ℕ) (h : Header) (s : Stored) (start : State (List Bool)) (count : ℕ) (has : store.HasHeader bytes h) (opened : store.IsOpened bytes h s) (same_type : w ≡ width_of h.ty)
    (count_is : count ≡ first_lines caching h.shape) (state_is : start ≡ open_array w (block_bits h.mode) h.shape s.codes count) where
  abbrev bits : ℕ
  bits = block_bits s.header.mode

  abbrev setting : Setting (List Bool)
  setting = setting_over caching w bits

  type_is : w ≡ width_of s.header.ty
  type_is = same_type ∙ ap (λ g. width_of g.ty) (sym opened.header)

  start_is : start ≡ open_array w bits s.header.shape s.codes (first_lines caching s.header.shape)
  start_is = state_is ∙ (ap (open_array w (block_bits h.mode) h.shape s.codes) count_is ∙ ap (λ g. open_array w (block_bits g.mode) g.shape s.codes (first_lines caching g.shape)) (sym opened.header))

  module _ (starved script : List ℕ) where
    -- the run of the array is the run of its file
    ran_is : run setting starved s.header.shape start script ≡ ran_over caching (store.said s) starved script
    unfolding ran_over
    ran_is = search (rules, start_is, type_is)

    file_is : saved_file w bits (run setting starved s.header.shape start script).0.shape (run setting starved s.header.shape start script).0.state ≡ run_file caching (store.said s) starved script
    file_is = search (rules, ran_is, type_is)

    starved_is : starved_lines setting starved 0 (lines_of script) (session s.header.shape start (whole s.header.shape)) ≡ starved_over caching (store.said s) starved script
    unfolding starved_over
    starved_is = search (rules, start_is, type_is)

  pub StandsFor-array : StandsFor (array_subject setting w bits s.header.shape start) (Run caching) bytes
  unfolding run run_script
  StandsFor-array = record {
    said = store.said s;
    opened = array_in-rate bytes h (Ok (store.said s)) has.good has.header has.rate opened.said_is;
    replies = λ starved script. ap (λ r. r.1) (ran_is starved script);
    starved = starved_is;
    file = λ starved script. ap Some (file_is starved script);
  }

module _ (lines : Option ℕ) (w : Width) (bytes : List ℕ) (h : Header) (a : streams.Held) (count : ℕ) (opened : contents.IsOpened bytes h a) (same_type : w ≡ width_of h.ty) (count_is : count ≡ lines_for lines h.shape)
    (state_is : streams.state a ≡ streams.open_stream h a.codes count) where
  look_start_is : streams.state a ≡ streams.open_stream a.header a.codes (lines_for lines a.header.shape)
  look_start_is = state_is ∙ (ap (streams.open_stream h a.codes) count_is ∙ ap (λ g. streams.open_stream g a.codes (lines_for lines g.shape)) (sym opened.header))

  -- the look at the array is the look at its file
  look_is : (starved script : List ℕ) → ((look (look_setting_of w a.header) starved (streams.shape a) (streams.state a) script).1, starved_lines (look_setting_of w a.header) starved 0 (lines_of script) (look_start_of a)) ≡ look_answers lines (contents.said a) starved script
  unfolding look_answers
  look_is starved script = search (rules, look_start_is)

  pub StandsFor-stream : StandsFor (stream_subject w a) (Look lines) bytes
  unfolding look run_script
  StandsFor-stream = record {
    said = contents.said a;
    opened = stream_in-said bytes (Ok (contents.said a)) opened.said_is;
    replies = λ starved script. ap (λ r. r.0) (look_is starved script);
    starved = λ starved script. ap (λ r. r.1) (look_is starved script);
    file = λ starved script. refl;
  }

-- ---- a file that is not opened

pub RefusesFile-index : (e : IndexFault) → RefusesFile (index_status e)
RefusesFile-index e = search rules

-- what a run loads is a store's file
pub HasHeader-run : (access : Access) (caching : Caching) (loaded : Loaded) → access ≡ Run caching → IsAccessed access loaded → store.HasHeader loaded.file.items loaded.header
HasHeader-run access caching loaded is accessed = search rules

-- it is no array's
pub IsRefused-array : (caching : Caching) (bytes : List ℕ) (h : Header) (e : IndexFault) → store.HasHeader bytes h → IsFault (parse bytes) (stream.stream_fault e) → IsRefused (Run caching) bytes (index_status e)
IsRefused-array caching bytes h e has why = search (rules, RefusesFile-index, array_in-rate)

-- it is no stream
pub IsRefused-stream : (lines : Option ℕ) (bytes : List ℕ) (e : IndexFault) → IsFault (parse bytes) (stream.stream_fault e) → IsRefused (Look lines) bytes (index_status e)
IsRefused-stream lines bytes e why = search (rules, RefusesFile-index, stream_in-said)
