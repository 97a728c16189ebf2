-- The run of a script over a two-way cache.
use Rattle.std.specs.Prelude.{ℕ, Bool, false, List, []}
use Rattle.std.specs.Int.{Width}
use Rattle.zf_cached.specs.Arrays.{rate_coding, zero_codes, open_array, saved_file}
use Rattle.zf_cached.specs.Commands.{Command}
use Rattle.zf_cached.specs.Kinds.{kind_of, is_windowless}
use Rattle.zf_cached.specs.Steps.{Setting}
use Rattle.zf_cached.specs.Runs.{run, replies_text}
use Rattle.zf_cached.specs.Touch.{touch_at}
use Rattle.zf_twoway.specs.Placing.{two_lines}

-- the commands on single values and on all, on the cache and the counts; none on windows and sizes
abbrev pub needs_no_window : Command → Bool
needs_no_window c = is_windowless (kind_of c)

-- an array of so many bits a block, over a two-way cache
unfoldable pub twoway_setting : Width → ℕ → Setting (List Bool)
twoway_setting w budget = record {
  width = w;
  coding = rate_coding w budget;
  has_room = λ ns. false;
  touch = touch_at two_lines;
  allows = needs_no_window;
}

-- the text of the run of a script over an array of zeros that is never out of memory, and the file that is
-- saved
unfoldable pub twoway_text : Width → ℕ → List ℕ → ℕ → List ℕ → List ℕ
twoway_text w budget ns lines script = replies_text
    (run (twoway_setting w budget) [] ns (open_array w budget ns (zero_codes budget ns) lines) script).1

unfoldable pub twoway_saved : Width → ℕ → List ℕ → ℕ → List ℕ → List ℕ
twoway_saved w budget ns lines script =
    let start = open_array w budget ns (zero_codes budget ns) lines in
    let after = (run (twoway_setting w budget) [] ns start script).0 in
    saved_file w budget after.shape after.state
