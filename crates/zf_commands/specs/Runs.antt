-- Lines one after the other. What a sink exposes of its bytes is `Some`, else `None`.
use Rattle.std.specs.Prelude.{ℕ, suc, ◌≡◌, ◌+◌, ◌<◌, ◌==◌, Bool, true, false, List, [], ◌∷◌, ◌++◌}
use Rattle.std.specs.Prelude.{length, take, count_by, Option}
use Rattle.std.specs.List.{list_any}
use Rattle.zf_dev.specs.Sink.{Appends}
use Rattle.zf_cached.specs.Replies.{Reply, reply_text}
use Rattle.zf_cached.specs.Steps.{Setting, Session}
use Rattle.zf_cached.specs.Runs.{lines_of, line_step, run_lines, replies_text}
use Rattle.zf_commands.specs.Steps.{is_refusal, starves}

-- this number, or none
abbrev pub number_if : Bool → ℕ → List ℕ
number_if true k = k ∷ []
number_if false k = []

-- the numbers of the lines that answer `! memory`, of lines that are run one after the other, the first of
-- them number k of the script, where the lines with these numbers are out of memory
unfoldable pub starved_lines : {Code : Type 0} → Setting Code → List ℕ → ℕ → List (List ℕ) → Session Code
    → List ℕ
starved_lines setting starved k [] s = []
starved_lines setting starved k (line ∷ lines) s =
    let one = line_step setting s line (list_any (λ n. n == k) starved) in
    number_if (starves one.1) k ++ starved_lines setting starved (suc k) lines one.0

-- the lines that are out of memory are just those, of the lines of a script, that say so
abbrev pub AreStarved : {Code : Type 0} → Setting Code → List ℕ → List (List ℕ) → Session Code → Type 0
AreStarved setting starved lines start = starved ≡ starved_lines setting starved 0 lines start

module _ {Code : Type 0} (setting : Setting Code) (starved script : List ℕ) (start : Session Code) where
  -- the first n lines are run
  abbrev pub run_prefix : ℕ → Session Code × List Reply
  run_prefix n = run_lines setting starved 0 (take n (lines_of script)) start

  -- all lines were run, each reply was written, and so many of them are refusals
  pub record RunsAll (now : Session Code) (old new : Option (List ℕ)) (refused : ℕ) : Type 0 where
    pub session : now ≡ (run_lines setting starved 0 (lines_of script) start).0
    pub starved_are : AreStarved setting starved (lines_of script) start
    pub refused_is : refused ≡ count_by is_refusal (run_lines setting starved 0 (lines_of script) start).1
    pub written : Appends old new (replies_text (run_lines setting starved 0 (lines_of script) start).1)

  -- the line with this number was run, and its reply was not written whole: what was written are the replies
  -- before it, and a part of it
  pub record StopsAt (now : Session Code) (old new : Option (List ℕ)) : Type 0 where
    pub at : ℕ
    pub below : at < length (lines_of script)
    pub reply : Reply
    pub replied : (run_prefix (at + 1)).1 ≡ (run_prefix at).1 ++ reply ∷ []
    pub session : now ≡ (run_prefix (at + 1)).0
    pub starved_are : AreStarved setting starved (take (at + 1) (lines_of script)) start
    pub count : ℕ
    pub not_whole : count < length (reply_text reply)
    pub written : Appends old new (replies_text (run_prefix at).1 ++ take count (reply_text reply))

-- all lines were run, of which some were out of memory
abbrev pub AllRun : {Code : Type 0} → Setting Code → List ℕ → Session Code → Session Code → Option (List ℕ)
    → Option (List ℕ) → ℕ → Type 0
AllRun setting script start now old new refused =
    (starved : List ℕ) × RunsAll setting starved script start now old new refused

-- a line was the last one, of which some were out of memory
abbrev pub HasStopped : {Code : Type 0} → Setting Code → List ℕ → Session Code → Session Code
    → Option (List ℕ) → Option (List ℕ) → Type 0
HasStopped setting script start now old new =
    (starved : List ℕ) × StopsAt setting starved script start now old new
