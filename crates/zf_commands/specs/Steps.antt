-- What a line of a script leads to, and what it answers.
use Rattle.std.specs.Prelude.{ℕ, ◌≡◌, ◌^◌, ℤ, Bool, true, false, List, replicate, Option, Some, None}
use Rattle.std.specs.Option.{option_map}
use Rattle.zf_spec.specs.Grid.{upto, blocks}
use Rattle.zf_base.specs.Formats.{existing_of}
use Rattle.zf_cached.specs.Replies as script
use Rattle.zf_cached.specs.Windows.{LiesIn}
use Rattle.zf_cached.specs.Commands.{Command}
use Rattle.zf_cached.specs.Steps.{Setting, Session, format_of, touched, changed, changed_at, step, done}
use Rattle.zf_cached.specs.Steps.{filled_below, summed}
use Rattle.zf_cached.specs.Runs.{read_step, line_step}
use Rattle.zf_script.specs.declared.reply.Reply.{Reply}
use Rattle.zf_script.specs.Seen.{reply_of}
use Rattle.zf_window.specs.Bounds.{IsUpTo}
use Rattle.zf_commands.specs.Sittings.{OnState}

-- the reply is a refusal
abbrev pub is_refusal : script.Reply → Bool
is_refusal (script.Reply.refused why) = true
is_refusal reply = false

-- it says that the line was out of memory
abbrev pub is_starved : script.Reply → Bool
is_starved (script.Reply.refused script.Refusal.memory) = true
is_starved reply = false

-- a line with this reply, if any, was out of memory
abbrev pub starves : Option script.Reply → Bool
starves None = false
starves (Some reply) = is_starved reply

-- a reply, if any, as the language has it
abbrev pub said : Option Reply → Option script.Reply
said reply = option_map reply_of reply

-- the window lies in the array
abbrev pub HasWindow : {Code : Type 0} → Session Code → Type 0
HasWindow s = LiesIn s.shape s.window

-- a command leads from one session to another, and this is its reply, if any
abbrev pub Takes : {Code : Type 0} → Setting Code → Session Code → Command → Session Code
    → Option script.Reply → Type 0
Takes setting s c t reply = read_step setting s (Some c) (starves reply) ≡ (t, reply)

-- a line leads from one session to another, and this is its reply, if any
abbrev pub LeadsTo : {Code : Type 0} → Setting Code → Session Code → List ℕ → Session Code
    → Option script.Reply → Type 0
LeadsTo setting s line t reply = line_step setting s line (starves reply) ≡ (t, reply)

-- a command leads from one session to another, whether or not it is allowed, and this is its answer
pub record Does {Code : Type 0} (setting : Setting Code) (c : Command) (s t : Session Code)
    (reply : Option script.Reply) : Type 0 where
  pub step_is : step setting s c (starves reply) ≡ (t, reply)
  pub inside : HasWindow t

-- a touch of block b leads from one session to another
abbrev pub Touches : {Code : Type 0} → Setting Code → ℕ → Session Code → Session Code → Type 0
Touches setting b s t = touched setting s b ≡ t

-- the value at a position is changed, by a touch for writing
abbrev pub Changes : {Code : Type 0} → Setting Code → List ℕ → (ℤ → ℤ) → Session Code → Session Code → Type 0
Changes setting ps change s t = changed_at setting s ps change ≡ t

-- block b is touched for writing, and its values become x where a place exists
abbrev pub Fills : {Code : Type 0} → Setting Code → ℕ → ℤ → Session Code → Session Code → Type 0
Fills setting b x s t =
    let f = format_of setting s in
    changed setting s b (λ values. existing_of f b (replicate f.block_len x)) ≡ t

-- a command that passes all tests, and has no reply
abbrev pub Performs : {Code : Type 0} → Setting Code → Command → Session Code → Session Code → Type 0
Performs setting c s t = done setting s c ≡ (t, None)

-- all values become x, by one touch of each block for writing; only the state is another
pub record FillsAll {Code : Type 0} (setting : Setting Code) (x : ℤ) (s t : Session Code) : Type 0 where
  pub filled : filled_below setting s x (upto (blocks s.shape)) ≡ t
  pub stays : OnState s t

-- the touches find numbers of which this is the sum, which is far from the end of 128 bits; only the state is
-- another
pub record Sums {Code X : Type 0} (setting : Setting Code) (block : X → ℕ) (found : X → List ℤ → ℤ)
    (xs : List X) (s t : Session Code) (sum : ℤ) : Type 0 where
  pub sum_is : summed setting block found xs s ≡ (t, sum)
  pub bound : IsUpTo (2 ^ 100) sum
  pub stays : OnState s t
