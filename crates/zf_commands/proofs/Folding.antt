-- Lines one after the other, with the replies that are written.
use Rattle.std.proofs.Common.{◌≡◌, ◌≢◌, ℤ, refl, sym, ap, subst, ◌∙◌, ℕ, suc, ◌+◌, ◌≤◌, ◌<◌, Bool, true, false, ◌||◌, ◌&&◌, cond, eqb, List, [], ◌∷◌, ◌++◌, length, take, drop, count_by, Option, Some, None, append_assoc, length-append, ne_eqb, eq-eqb, zero-add, arith, Result, OnErr, rules}
use Rattle.std.{specs.List.{list_any}, specs.Option.{option_to_list, option_map}, proofs.lemmas.List.{append-nil, length-take-le, take-append-drop}}
use Rattle.std.{proofs.lemmas.Grind.{flat_map-append}, proofs.lemmas.List.Sums.{sum_by-append}}
use Rattle.std.proofs.Math.Seq.{take-append_seam, take-append-add}
use mir.Val.{bool_byte}
use Rattle.zf_dev.{specs.Sink.{Appends, AppendsPart}, proofs.Appending.{Appends-none, Appends-append}}
use Rattle.zf_cached.{specs.Commands.{Command}, specs.Acts.{Act}, specs.Views.{acted, answered}}
use Rattle.zf_cached.specs.Kinds.{Kind, ReadCommand, WindowCommand, WriteCommand, ArrayCommand, ViewCommand, kind_of}
use Rattle.zf_cached.specs.Replies.{Refusal, Reply, reply_text}
use Rattle.zf_cached.specs.Steps.{Setting, Session, format_of, state_of_view, by_view, at_position, tests, refuses_split, first_refusal, refusal, done_of, done, step}
use Rattle.zf_cached.specs.Runs.{lines_of, read_step, line_step, run_lines, replies_text}
use Rattle.zf_cached.specs.Grammar.{read_line}
use Rattle.zf_cached.proofs.Runs.{run_lines-append}
use Rattle.zf_commands.specs.Steps.{LeadsTo, starves, is_starved, is_refusal}
use Rattle.zf_commands.specs.Lines.{refuses, Replies, Breaks}
use Rattle.zf_commands.specs.Runs.{number_if, starved_lines, AreStarved, StopsAt, AllRun, HasStopped}

-- a line's number is in a list
abbrev listed : List ℕ → ℕ → Bool
listed starved k = list_any (λ n. eqb n k) starved

-- ---- which lines are out of memory

-- what is listed behind the lines that are run does not matter
run_lines-same : {Code : Type 0} (setting : Setting Code) (xs ys : List ℕ) (k : ℕ) (lines : List (List ℕ)) (s : Session Code)
    → ((n : ℕ) → n < k + length lines → listed xs n ≡ listed ys n) → run_lines setting xs k lines s ≡ run_lines setting ys k lines s
unfolding run_lines
run_lines-same setting xs ys k [] s same = refl
run_lines-same {Code} setting xs ys k (line ∷ lines) s same =
    let step : Bool → Session Code × List Reply = λ t. let one = line_step setting s line t in let rest = run_lines setting xs (suc k) lines one.0 in (rest.0, option_to_list one.1 ++ rest.1) in
    let one = line_step setting s line (listed ys k) in
    ap step (same k (omega arith)) ∙ ap (λ (r : Session Code × List Reply). (r.0, option_to_list one.1 ++ r.1)) (run_lines-same setting xs ys (suc k) lines one.0 (λ n lt. same n (omega arith)))

starved_lines-same : {Code : Type 0} (setting : Setting Code) (xs ys : List ℕ) (k : ℕ) (lines : List (List ℕ)) (s : Session Code)
    → ((n : ℕ) → n < k + length lines → listed xs n ≡ listed ys n) → starved_lines setting xs k lines s ≡ starved_lines setting ys k lines s
unfolding starved_lines
starved_lines-same setting xs ys k [] s same = refl
starved_lines-same {Code} setting xs ys k (line ∷ lines) s same =
    let step : Bool → List ℕ = λ t. let one = line_step setting s line t in number_if (starves one.1) k ++ starved_lines setting xs (suc k) lines one.0 in
    let one = line_step setting s line (listed ys k) in
    ap step (same k (omega arith)) ∙ ap (λ (ns : List ℕ). number_if (starves one.1) k ++ ns) (starved_lines-same setting xs ys (suc k) lines one.0 (λ n lt. same n (omega arith)))

-- lines, and then more lines
starved_lines-append : {Code : Type 0} (setting : Setting Code) (starved : List ℕ) (k : ℕ) (lines more : List (List ℕ)) (s : Session Code)
    → starved_lines setting starved k (lines ++ more) s ≡ starved_lines setting starved k lines s ++ starved_lines setting starved (k + length lines) more (run_lines setting starved k lines s).0
unfolding run_lines starved_lines
starved_lines-append setting starved k [] more s = let e : k ≡ k + 0 = omega arith in ap (λ n. starved_lines setting starved n more s) e
starved_lines-append setting starved k (line ∷ lines) more s =
    let one = line_step setting s line (listed starved k) in
    let e : suc k + length lines ≡ k + suc (length lines) = omega arith in
    let first = run_lines setting starved (suc k) lines one.0 in
    let own = number_if (starves one.1) k in
    let behind = starved_lines setting starved (suc k) lines one.0 in
    ap (λ (ns : List ℕ). own ++ ns) (starved_lines-append setting starved (suc k) lines more one.0)
    ∙ sym (append_assoc own behind (starved_lines setting starved (suc k + length lines) more first.0))
    ∙ ap (λ (n : ℕ). (own ++ behind) ++ starved_lines setting starved n more first.0) e

-- line k is out of memory too, or is not
abbrev with_line : Bool → ℕ → List ℕ → List ℕ
with_line t k starved = starved ++ number_if t k

or_assoc : (a b c : Bool) → (a || b) || c ≡ a || (b || c)
or_assoc _ b c = search rules

or_false : (a : Bool) → a || false ≡ a
or_false _ = search rules

listed-append : (xs ys : List ℕ) (n : ℕ) → listed (xs ++ ys) n ≡ listed xs n || listed ys n
listed-append [] ys n = refl
listed-append (x ∷ xs) ys n = ap (λ b. eqb x n || b) (listed-append xs ys n) ∙ sym (or_assoc (eqb x n) (listed xs n) (listed ys n))

-- no other line is
with_line-other : (t : Bool) (k n : ℕ) (starved : List ℕ) → k ≢ n → listed (with_line t k starved) n ≡ listed starved n
with_line-other true k n starved other = listed-append starved (k ∷ []) n ∙ ap (λ b. listed starved n || (b || false)) (ne_eqb k n other) ∙ or_false (listed starved n)
with_line-other false k n starved other = ap (λ ns. listed ns n) (append-nil starved)

with_line-at : (t : Bool) (k : ℕ) (starved : List ℕ) → listed starved k ≡ false → listed (with_line t k starved) k ≡ t
with_line-at true k starved none = listed-append starved (k ∷ []) k ∙ ap (λ b. listed starved k || (b || false)) (eq-eqb k k refl) ∙ ap (λ b. b || true) none
with_line-at false k starved none = ap (λ ns. listed ns k) (append-nil starved) ∙ none

-- ---- counts

count_by-append : {X : Type 0} (p : X → Bool) (xs ys : List X) → count_by p (xs ++ ys) ≡ count_by p xs + count_by p ys
count_by-append p xs ys = sum_by-append (λ x. cond (p x) 1 0) xs ys

count-refusal : (reply : Option Reply) → count_by is_refusal (option_to_list reply) ≡ cond (refuses reply) 1 0
count-refusal _ = search rules

-- ---- the fold

-- the first of all lines were run and these are left; each reply was written, and so many are refusals
pub record HasRun {Code : Type 0} (setting : Setting Code) (all left : List (List ℕ)) (start now : Session Code) (old new : Option (List ℕ)) (refused : ℕ) : Type 0 where
  pub lines : List (List ℕ)
  pub parts : all ≡ lines ++ left
  pub starved : List ℕ
  pub none_behind : (n : ℕ) → length lines ≤ n → listed starved n ≡ false
  pub session : now ≡ (run_lines setting starved 0 lines start).0
  pub starved_are : AreStarved setting starved lines start
  pub refused_is : refused ≡ count_by is_refusal (run_lines setting starved 0 lines start).1
  pub written : Appends old new (replies_text (run_lines setting starved 0 lines start).1)

-- at first none
pub none_run : {Code : Type 0} (setting : Setting Code) (all : List (List ℕ)) (start : Session Code) (known : Option (List ℕ)) → HasRun setting all all start start known known 0
unfolding run_lines starved_lines
none_run setting all start known = record {
  lines = [];
  parts = refl;
  starved = [];
  none_behind = λ n h. refl;
  session = refl;
  starved_are = refl;
  refused_is = refl;
  written = Appends-none known;
}

module _ {Code : Type 0} (setting : Setting Code) (all : List (List ℕ)) (line : List ℕ) (left : List (List ℕ)) (start now : Session Code) (old mid : Option (List ℕ)) (refused : ℕ)
    (run : HasRun setting all (line ∷ left) start now old mid refused) (next : Session Code) (reply : Option Reply) (leads : LeadsTo setting now line next reply) where
  k : ℕ
  k = length run.lines

  starved : List ℕ
  starved = with_line (starves reply) k run.starved

  prefix : List Reply
  prefix = (run_lines setting run.starved 0 run.lines start).1

  -- the lines before run as they did
  before : run_lines setting starved 0 run.lines start ≡ run_lines setting run.starved 0 run.lines start
  unfolding starved k
  before = run_lines-same setting starved run.starved 0 run.lines start (λ n lt. with_line-other (starves reply) (length run.lines) n run.starved (λ e. omega (arith, e, lt)))

  one : run_lines setting starved k (line ∷ []) now ≡ (next, option_to_list reply)
  unfolding run_lines starved k
  one =
      let step : Bool → Session Code × List Reply = λ t. let r = line_step setting now line t in (r.0, option_to_list r.1 ++ []) in
      ap step (with_line-at (starves reply) (length run.lines) run.starved (run.none_behind (length run.lines) (omega arith)))
      ∙ ap (λ (r : Session Code × Option Reply). (r.0, option_to_list r.1 ++ [])) leads ∙ ap (λ (rs : List Reply). (next, rs)) (append-nil (option_to_list reply))

  -- and with this line
  after : run_lines setting starved 0 (run.lines ++ line ∷ []) start ≡ (next, prefix ++ option_to_list reply)
  unfolding prefix k
  after = search (rules, starved, prefix, run_lines-append, zero-add, before, one)

  one_starved : starved_lines setting starved k (line ∷ []) now ≡ number_if (starves reply) k
  unfolding starved_lines starved k
  one_starved =
      let step : Bool → List ℕ = λ t. number_if (starves (line_step setting now line t).1) (length run.lines) ++ [] in
      ap step (with_line-at (starves reply) (length run.lines) run.starved (run.none_behind (length run.lines) (omega arith)))
      ∙ ap (λ (r : Session Code × Option Reply). number_if (starves r.1) (length run.lines) ++ []) leads ∙ append-nil (number_if (starves reply) (length run.lines))

  -- the lines that are out of memory are those that say so
  all_starved : AreStarved setting starved (run.lines ++ line ∷ []) start
  unfolding starved k
  all_starved = search (rules, starved, starved_lines-same, with_line-other, starved_lines-append, zero-add, before, one_starved)

  -- its reply is written
  pub one_more : (new : Option (List ℕ)) → Appends mid new (replies_text (option_to_list reply)) → (more : ℕ) → more ≡ refused + cond (refuses reply) 1 0 → HasRun setting all left start next old new more
  unfolding prefix starved k
  one_more new written more is = record {
    lines = run.lines ++ line ∷ [];
    parts = run.parts ∙ sym (append_assoc run.lines (line ∷ []) left);
    starved = starved;
    none_behind = λ n h. with_line-other (starves reply) (length run.lines) n run.starved (λ e. omega (arith, length-append run.lines (line ∷ []), e, h)) ∙ run.none_behind n (omega (arith, length-append run.lines (line ∷ [])));
    session = sym (ap (λ (r : Session Code × List Reply). r.0) after);
    starved_are = all_starved;
    refused_is = search (rules, after, count_by-append, prefix, count-refusal);
    written = subst (λ (r : Session Code × List Reply). Appends old new (replies_text r.1)) (sym after)
        (subst (Appends old new) (sym (flat_map-append reply_text prefix (option_to_list reply))) (Appends-append old mid new (replies_text prefix) (replies_text (option_to_list reply)) run.written written));
  }

  -- its reply is the last one, and is not written whole
  module _ (last : Reply) (is : reply ≡ Some last) (new : Option (List ℕ)) (part : AppendsPart mid new (reply_text last)) where
    prefixes : take k all ≡ run.lines
    unfolding k
    prefixes = ap (take (length run.lines)) run.parts ∙ take-append_seam run.lines (line ∷ left)

    prefixes_and_line : take (k + 1) all ≡ run.lines ++ line ∷ []
    unfolding k
    prefixes_and_line = ap (take (length run.lines + 1)) run.parts ∙ take-append-add run.lines (line ∷ left) 1

    first_run : run_lines setting starved 0 (take k all) start ≡ run_lines setting run.starved 0 run.lines start
    first_run = ap (λ (ls : List (List ℕ)). run_lines setting starved 0 ls start) prefixes ∙ before

    then_run : run_lines setting starved 0 (take (k + 1) all) start ≡ (next, prefix ++ option_to_list reply)
    then_run = ap (λ (ls : List (List ℕ)). run_lines setting starved 0 ls start) prefixes_and_line ∙ after

    pub stops : (script : List ℕ) → lines_of script ≡ all → HasStopped setting script start next old new
    unfolding prefix starved k
    stops script lines =
        let Prefix = λ (ls : List (List ℕ)) (n : ℕ). run_lines setting starved 0 (take n ls) start in
        let k = length run.lines in
        let first : Prefix (lines_of script) k ≡ run_lines setting run.starved 0 run.lines start = ap (λ (ls : List (List ℕ)). Prefix ls k) lines ∙ first_run in
        let then : Prefix (lines_of script) (k + 1) ≡ (next, prefix ++ option_to_list reply) = ap (λ (ls : List (List ℕ)). Prefix ls (k + 1)) lines ∙ then_run in (
          starved,
          record {
            at = k;
            below = omega (arith, ap length lines, ap length run.parts, length-append run.lines (line ∷ left));
            reply = last;
            replied = ap (λ (r : Session Code × List Reply). r.1) then ∙ ap (λ (o : Option Reply). prefix ++ option_to_list o) is ∙ ap (λ (r : Session Code × List Reply). r.1 ++ last ∷ []) (sym first);
            session = sym (ap (λ (r : Session Code × List Reply). r.0) then);
            starved_are = subst (λ (ls : List (List ℕ)). AreStarved setting starved ls start) (sym (ap (take (k + 1)) lines ∙ prefixes_and_line)) all_starved;
            count = part.0;
            not_whole = part.1;
            written = subst (λ (r : Session Code × List Reply). Appends old new (replies_text r.1 ++ take part.0 (reply_text last))) (sym first)
                (Appends-append old mid new (replies_text prefix) (take part.0 (reply_text last)) run.written part.2);
          },
        )

-- at last all
pub all_run : {Code : Type 0} (setting : Setting Code) (script : List ℕ) (all : List (List ℕ)) (start now : Session Code) (old new : Option (List ℕ)) (refused : ℕ)
    → lines_of script ≡ all → HasRun setting all [] start now old new refused → AllRun setting script start now old new refused
all_run {Code} setting script all start now old new refused lines run = search (rules, append-nil)

-- ---- the turns of the loop

module _ {Code : Type 0} (setting : Setting Code) (all here : List (List ℕ)) (line : List ℕ) (left : List (List ℕ)) (start now : Session Code) (old mid new : Option (List ℕ)) (refused : ℕ)
    (run : HasRun setting all here start now old mid refused) (parts : here ≡ line ∷ left) (next : Session Code) where
  at_line : HasRun setting all (line ∷ left) start now old mid refused
  at_line = subst (λ (ls : List (List ℕ)). HasRun setting all ls start now old mid refused) parts run

  pub run_on : (t : Bool) → Replies setting now line next mid new t → (more : ℕ) → more ≡ refused + cond t 1 0 → HasRun setting all left start next old new more
  run_on t r more is = one_more setting all line left start now old mid refused at_line next r.reply r.leads new r.written more (is ∙ ap (λ u. refused + cond u 1 0) r.refused_is)

  pub stop_here : Breaks setting now line next mid new → (script : List ℕ) → lines_of script ≡ all → HasStopped setting script start next old new
  stop_here b script lines = stops setting all line left start now old mid refused at_line next (Some b.reply) b.leads b.reply refl new b.written script lines

-- what is said of the same setting by another name
module _ {K Code : Type 0} (S : K → Setting Code) {k m : K} {s t : Session Code} {line : List ℕ} {old new : Option (List ℕ)} (same : k ≡ m) where
  pub breaks_as : Breaks (S k) s line t old new → Breaks (S m) s line t old new
  breaks_as b = subst (λ j. Breaks (S j) s line t old new) same b

  pub replies_as : {refused : Bool} → Replies (S k) s line t old new refused → Replies (S m) s line t old new refused
  replies_as {refused} r = subst (λ j. Replies (S j) s line t old new refused) same r

-- a bool as a number
pub one_or_none : (t : Bool) → bool_byte t ≡ cond t 1 0
one_or_none _ = search rules

pub at_most_one : (t : Bool) → bool_byte t ≤ 1
at_most_one _ = search rules

-- what holds at all holds of an error
pub of_error : {X E P : Type 0} (r : Result X E) → P → OnErr r P
of_error _ p = search rules

-- ---- the lines that are out of memory are as many as say so

count-starved : (reply : Option Reply) (k : ℕ) → count_by is_starved (option_to_list reply) ≡ length (number_if (starves reply) k)
count-starved _ k = search rules

pub starved-counted : {Code : Type 0} (setting : Setting Code) (starved : List ℕ) (k : ℕ) (lines : List (List ℕ)) (s : Session Code)
    → length (starved_lines setting starved k lines s) ≡ count_by is_starved (run_lines setting starved k lines s).1
unfolding run_lines starved_lines
starved-counted setting starved k [] s = refl
starved-counted setting starved k (line ∷ lines) s =
    let one = line_step setting s line (listed starved k) in
    let rest = run_lines setting starved (suc k) lines one.0 in
    let behind = starved_lines setting starved (suc k) lines one.0 in
    omega (
      arith,
      count_by-append is_starved (option_to_list one.1) rest.1,
      count-starved one.1 k,
      length-append (number_if (starves one.1) k) behind,
      starved-counted setting starved (suc k) lines one.0,
    )

-- ---- no line behind the last one that was run is out of memory

number-starves : (n : Option ℤ) → starves (option_map Reply.number n) ≡ false
number-starves None = refl
number-starves (Some n) = refl

view-starves : {Code : Type 0} (setting : Setting Code) (s : Session Code) (i : ℕ) (act : Act) → starves (by_view setting s i act).1 ≡ false
unfolding by_view
view-starves setting s i act =
    let t = acted setting.width (format_of setting s) (state_of_view s i) act in number-starves (answered t act)

done_of-starves : {Code : Type 0} (setting : Setting Code) (s : Session Code) (k : Kind) → starves (done_of setting s k).1 ≡ false
done_of-starves setting s (Kind.read (ReadCommand.get ps)) = refl
done_of-starves setting s (Kind.read ReadCommand.sum) = refl
done_of-starves setting s (Kind.read (ReadCommand.lines l)) = refl
done_of-starves setting s (Kind.read ReadCommand.stats) = refl
done_of-starves setting s (Kind.window (WindowCommand.view origin size step)) = refl
done_of-starves setting s (Kind.window (WindowCommand.slice axis at)) = refl
done_of-starves setting s (Kind.window (WindowCommand.get ps)) = refl
done_of-starves setting s (Kind.window WindowCommand.sum) = refl
done_of-starves setting s (Kind.write (WriteCommand.set ps v)) = refl
done_of-starves setting s (Kind.write (WriteCommand.add ps v)) = refl
done_of-starves setting s (Kind.write (WriteCommand.fill v)) = refl
done_of-starves setting s (Kind.write WriteCommand.flush) = refl
done_of-starves setting s (Kind.write WriteCommand.discard) = refl
done_of-starves setting s (Kind.array (ArrayCommand.set ps v)) = refl
done_of-starves setting s (Kind.array (ArrayCommand.resize ns)) = refl
done_of-starves setting s (Kind.split n l) = refl
done_of-starves setting s Kind.join = refl
done_of-starves setting s (Kind.view i (ViewCommand.get ps)) = view-starves setting s i (at_position s Act.get ps)
done_of-starves setting s (Kind.view i (ViewCommand.set ps v)) = view-starves setting s i (at_position s (λ b p. Act.set b p v) ps)
done_of-starves setting s (Kind.view i (ViewCommand.add ps v)) = view-starves setting s i (at_position s (λ b p. Act.add b p v) ps)
done_of-starves setting s (Kind.view i ViewCommand.flush) = view-starves setting s i Act.flush
done_of-starves setting s (Kind.view i ViewCommand.discard) = view-starves setting s i Act.discard
done_of-starves setting s (Kind.view i ViewCommand.stats) = refl

done-starves : {Code : Type 0} (setting : Setting Code) (s : Session Code) (c : Command) → starves (done setting s c).1 ≡ false
unfolding done
done-starves setting s c = done_of-starves setting s (kind_of c)

-- what has memory is not refused for want of it
first_refusal-memory : (split size range value memory : Bool) → first_refusal split size range value (memory && false) ≢ Some Refusal.memory
first_refusal-memory true _ _ _ _ = λ is. cc
first_refusal-memory false true _ _ _ = λ is. cc
first_refusal-memory false false true _ _ = λ is. cc
first_refusal-memory false false false true _ = λ is. cc
first_refusal-memory false false false false true = λ is. cc
first_refusal-memory false false false false false = λ is. cc

module _ {Code : Type 0} (setting : Setting Code) (s : Session Code) where
  -- a command that is refused so, or is done
  abbrev refusing : Command → Option Refusal → Session Code × Option Reply
  refusing c why = elim why [ Some w ↦ (s, Some (Reply.refused w)) | None ↦ done setting s c ]

  refused-starves : (c : Command) (why : Option Refusal) → why ≢ Some Refusal.memory → starves (refusing c why).1 ≡ false
  refused-starves c None other = done-starves setting s c
  refused-starves c (Some Refusal.word) other = refl
  refused-starves c (Some Refusal.split) other = refl
  refused-starves c (Some Refusal.size) other = refl
  refused-starves c (Some Refusal.range) other = refl
  refused-starves c (Some Refusal.value) other = refl
  refused-starves c (Some Refusal.memory) other = absurd (other refl)

  step-starves : (c : Command) → starves (step setting s c false).1 ≡ false
  unfolding step refusal
  step-starves c = let t = tests setting s c in refused-starves c (refusal setting s c false) (first_refusal-memory (refuses_split s c) t.size t.range t.value t.memory)

  -- a command that is allowed, or not
  abbrev allowing : Command → Bool → Session Code × Option Reply
  allowing c allowed = elim allowed [ true ↦ step setting s c false | false ↦ (s, Some (Reply.refused Refusal.word)) ]

  allowed-starves : (c : Command) (allowed : Bool) → starves (allowing c allowed).1 ≡ false
  allowed-starves c true = step-starves c
  allowed-starves c false = refl

  read_step-starves : (c : Option Command) → starves (read_step setting s c false).1 ≡ false
  unfolding read_step
  read_step-starves None = refl
  read_step-starves (Some c) = allowed-starves c (setting.allows c)

  line_step-starves : (line : List ℕ) → starves (line_step setting s line false).1 ≡ false
  unfolding line_step
  line_step-starves [] = refl
  line_step-starves (c ∷ cs) = read_step-starves (read_line (length s.shape) (c ∷ cs))

-- lines that have memory do not answer that they are out of it
starved_lines-none : {Code : Type 0} (setting : Setting Code) (starved : List ℕ) (k : ℕ) (lines : List (List ℕ)) (s : Session Code)
    → ((n : ℕ) → k ≤ n → listed starved n ≡ false) → starved_lines setting starved k lines s ≡ []
unfolding starved_lines
starved_lines-none setting starved k [] s none = refl
starved_lines-none setting starved k (line ∷ lines) s none =
    let one = line_step setting s line (listed starved k) in
    let own : starves one.1 ≡ false = ap (λ t. starves (line_step setting s line t).1) (none k (omega arith)) ∙ line_step-starves setting s line in
    ap (λ t. number_if t k ++ starved_lines setting starved (suc k) lines one.0) own ∙ starved_lines-none setting starved (suc k) lines one.0 (λ n le. none n (omega (arith, le)))

-- those that do are among the lines that are run
starved_lines-within : {Code : Type 0} (setting : Setting Code) (starved : List ℕ) (k : ℕ) (lines : List (List ℕ)) (s : Session Code) (n : ℕ)
    → k + length lines ≤ n → listed (starved_lines setting starved k lines s) n ≡ false
unfolding starved_lines
starved_lines-within setting starved k [] s n behind = refl
starved_lines-within setting starved k (line ∷ lines) s n behind =
    let one = line_step setting s line (listed starved k) in
    let own = number_if (starves one.1) k in
    let rest = starved_lines setting starved (suc k) lines one.0 in
    let rest_within : listed rest n ≡ false = starved_lines-within setting starved (suc k) lines one.0 n (omega (arith, behind)) in
    listed-append own rest n ∙ ap (λ b. listed own n || b) rest_within ∙ or_false (listed own n) ∙ own_within (starves one.1)
  where
    own_within : (t : Bool) → listed (number_if t k) n ≡ false
    own_within true = ap (λ b. b || false) (ne_eqb k n (λ e. omega (arith, e, behind)))
    own_within false = refl

-- where a reply was the last one, the lines that were out of memory are just those, of the whole script, that say so
pub stopped-starved : {Code : Type 0} (setting : Setting Code) (starved script : List ℕ) (start now : Session Code) (old new : Option (List ℕ))
    → StopsAt setting starved script start now old new → AreStarved setting starved (lines_of script) start
stopped-starved setting lacking script start now old new at_line =
    let all = lines_of script in
    let k = at_line.at + 1 in
    let first = take k all in
    let behind = drop k all in
    let count : length first ≡ k = length-take-le k all (omega (arith, at_line.below)) in
    let after = (run_lines setting lacking 0 first start).0 in
    let within : (n : ℕ) → k ≤ n → listed lacking n ≡ false = λ n le. ap (λ ns. listed ns n) at_line.starved_are ∙ starved_lines-within setting lacking 0 first start n (omega (arith, count, le)) in
    let none : starved_lines setting lacking (0 + length first) behind after ≡ [] = starved_lines-none setting lacking (0 + length first) behind after (λ n le. within n (omega (arith, count, le))) in
    at_line.starved_are
    ∙ sym (append-nil (starved_lines setting lacking 0 first start))
    ∙ ap (λ (ns : List ℕ). starved_lines setting lacking 0 first start ++ ns) (sym none)
    ∙ sym (starved_lines-append setting lacking 0 first behind start)
    ∙ ap (λ ls. starved_lines setting lacking 0 ls start) (take-append-drop k all)
