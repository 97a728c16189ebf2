-- Words of lines and the commands that they are.
use Rattle.std.proofs.Common.{◌≡◌, ◌≢◌, ℕ, ◌<◌, ◌≤◌, ◌^◌, ℤ, List, [], ◌∷◌, length, get_or, ◌⊎◌, inl, inr, false, bytes_eq, Option, Some, None, Result, Ok, Err, IsTrue, IfSome, IfNone, IfOk, IfErr, FitsSigned, refl, ap, sym, ◌∙◌, arith, rules, codes, decimal}
use Rattle.std.{specs.Int.{w128}, specs.Fmt.{signed_decimal}, specs.Option.{ok_or}}
use Rattle.std.proofs.lemmas.Bool.{lt-ltb, ltb-true, false≢true, and_parts, and_from}
use Rattle.std.proofs.lemmas.Slice.Eq.{bytes_eq-Decides}
use Rattle.zf_base.specs.declared.position.Pos.{Pos}
use Rattle.zf_cached.{specs.Commands.{Command}, proofs.Numerals.{HasNo}}
use Rattle.zf_cached.specs.Grammar.{space, comma, letter_x, numbers_text, view_word, words_of, is_value, has_axes, has_sizes, cut_at, read_line}
use Rattle.zf_cached.proofs.Cutting.{cut_at-one, joined-cut_at, one_word}
use Rattle.zf_cached.proofs.ReadLines.{sizes-parts, position_no_space, sizes_no_space, value_no_space, number_no_space, cut_at-line_of, read_line_iff, read_line-None}
use Rattle.zf_script.{specs.declared.command.Cmd.{Cmd}, specs.declared.reply.Refusal.{Refusal}}
use Rattle.zf_script.{specs.declared.verb.ValueVerb.{ValueVerb}, specs.declared.verb.Verb.{Verb}}
use Rattle.zf_script.{specs.NumberWords.{IsAxesWord, IsSizesWord}, specs.Verbs.{value_verb_word, verb_word}}
use Rattle.zf_script.specs.Arguments.{IsPositionAndValue, NoPositionAndValue, IsWindow, NoWindow, IsTwoNumbers, NoTwoNumbers}
use Rattle.zf_script.{specs.Seen.{command_of, IsCommand, IsNoCommand}, proofs.Joined.{some_part}}
use Rattle.zf_script.specs.declared.command.Cmd.TheVariants as cmds
use Rattle.zf_script.specs.declared.reply.Refusal.TheVariants as refusals
use Rattle.zf_script.specs.declared.verb.ValueVerb.TheVariants as value_verbs
use Rattle.zf_script.specs.declared.verb.Verb.TheVariants as verbs

-- ---- the last word
pub last_word : (word text : List ℕ) → word ≡ text → HasNo space text → cut_at space word ≡ text ∷ []
last_word word text is none = ap (cut_at space) is ∙ cut_at-one space text none

-- a value is one of 128 bits
pub value_fits : (v : ℤ) → IsTrue (is_value v) → FitsSigned w128 v
value_fits _ small = search rules

-- ---- more words than one
pub position_and_value_some : (d : ℕ) (words first second : List ℕ) (p : Pos) (v : ℤ) → cut_at space words ≡ first ∷ cut_at space second → IsAxesWord d comma 0 first p → IsTrue (is_value v) → second ≡ signed_decimal v → IsPositionAndValue d (cut_at space words) p v
position_and_value_some d words first second p v cut axes small text = search (rules, last_word, value_no_space)

pub position_and_value_none : (d : ℕ) (words first second : List ℕ) → cut_at space words ≡ first ∷ cut_at space second → ((v : ℤ) → IsTrue (is_value v) → second ≢ signed_decimal v) → NoPositionAndValue d (cut_at space words)
position_and_value_none d words first second cut none p v ok small same = search (rules, one_word)

pub window_some : (d : ℕ) (words first rest second third : List ℕ) (p s t : Pos) → cut_at space words ≡ first ∷ cut_at space rest → cut_at space rest ≡ second ∷ cut_at space third → IsAxesWord d comma 0 first p → IsAxesWord d letter_x 1 second s → IsAxesWord d comma 1 third t → IsWindow d (cut_at space words) p s t
window_some d words first rest second third p s t cut again origin sizes steps = search (rules, last_word, position_no_space)

pub window_none : (d : ℕ) (words first rest second third : List ℕ) → cut_at space words ≡ first ∷ cut_at space rest → cut_at space rest ≡ second ∷ cut_at space third → ((ns : List ℕ) → IsTrue (has_axes d ns) → third ≢ numbers_text comma ns) → NoWindow d (cut_at space words)
window_none d words first rest second third cut again none p s t ok_p ok_s ok_t same = search (rules, one_word)

pub two_numbers_some : (words first second : List ℕ) (a i : ℕ) → cut_at space words ≡ first ∷ cut_at space second → first ≡ decimal a → second ≡ decimal i → i < 2 ^ 64 → IsTwoNumbers (cut_at space words) a i
two_numbers_some words first second a i cut one two small = search (rules, last_word, number_no_space, lt-ltb)

pub two_numbers_none : (words first second : List ℕ) → cut_at space words ≡ first ∷ cut_at space second → ((n : ℕ) → n < 2 ^ 64 → second ≢ decimal n) → NoTwoNumbers (cut_at space words)
two_numbers_none words first second cut none a i small_a small_i same = search (rules, one_word)

-- ---- a verb and one word
pub get_command : (d : ℕ) (rest : List ℕ) (p : Pos) → IsAxesWord d comma 0 rest p → IsCommand d (codes "get" ∷ cut_at space rest) (cmds.Get p)
get_command d rest p axes = search (rules, last_word, position_no_space)

pub vget_command : (d : ℕ) (rest : List ℕ) (p : Pos) → IsAxesWord d comma 0 rest p → IsCommand d (codes "vget" ∷ cut_at space rest) (cmds.VGet p)
vget_command d rest p axes = search (rules, last_word, position_no_space)

pub set_command : (d : ℕ) (rest : List ℕ) (p : Pos) (v : ℤ) → IsPositionAndValue d (cut_at space rest) p v → IsCommand d (codes "set" ∷ cut_at space rest) (cmds.Set p v)
set_command d rest p v both = search (rules, and_from)

pub add_command : (d : ℕ) (rest : List ℕ) (p : Pos) (v : ℤ) → IsPositionAndValue d (cut_at space rest) p v → IsCommand d (codes "add" ∷ cut_at space rest) (cmds.Add p v)
add_command d rest p v both = search (rules, and_from)

pub vset_command : (d : ℕ) (rest : List ℕ) (p : Pos) (v : ℤ) → IsPositionAndValue d (cut_at space rest) p v → IsCommand d (codes "vset" ∷ cut_at space rest) (cmds.VSet p v)
vset_command d rest p v both = search (rules, and_from)

pub fill_command : (d : ℕ) (rest : List ℕ) (v : ℤ) → IsTrue (is_value v) → rest ≡ signed_decimal v → IsCommand d (codes "fill" ∷ cut_at space rest) (cmds.Fill v)
fill_command d rest v small text = search (rules, last_word, value_no_space)

pub lines_command : (d : ℕ) (rest : List ℕ) (l : ℕ) → l < 2 ^ 64 → rest ≡ decimal l → IsCommand d (codes "lines" ∷ cut_at space rest) (cmds.Lines l)
lines_command d rest l small text = search (rules, lt-ltb, last_word, number_no_space)

pub resize_command : (d : ℕ) (rest : List ℕ) (count : ℕ) (s : Pos) → IsSizesWord letter_x 1 rest count s → IsCommand d (codes "resize" ∷ cut_at space rest) (cmds.Resize count s)
resize_command d rest count s sizes = search (rules, last_word, sizes_no_space, sizes-parts)

-- ---- words that are no command
-- the first word is another
other_verb : (verb : List ℕ) (c : Command) (rest : List (List ℕ)) → bytes_eq verb (get_or (words_of c) 0 []) ≡ false → verb ∷ rest ≡ words_of c → ⊥
other_verb verb c rest differ same =
    false≢true (sym differ ∙ (bytes_eq-Decides verb (get_or (words_of c) 0 [])).1 (ap (λ words. get_or words 0 []) same))

-- the only word behind the first one
tail_word : (verb rest text : List ℕ) → verb ∷ cut_at space rest ≡ verb ∷ text ∷ [] → rest ≡ text
tail_word verb rest text same = let tail : cut_at space rest ≡ text ∷ [] = cc in one_word space rest text tail

-- there is a word behind a space
word_behind : (verb rest : List ℕ) → verb ∷ cut_at space rest ≡ verb ∷ [] → ⊥
word_behind verb rest same = omega (arith, some_part space rest, ap length same)

pub no_get : (d : ℕ) (rest : List ℕ) → ((ns : List ℕ) → IsTrue (has_axes d ns) → rest ≢ numbers_text comma ns) → IsNoCommand d (codes "get" ∷ cut_at space rest)
no_get d rest none (Command.get p) ok same = none p ok (tail_word (codes "get") rest (numbers_text comma p) same)
no_get d rest none c ok same = other_verb (codes "get") c (cut_at space rest) refl same

pub no_vget : (d : ℕ) (rest : List ℕ) → ((ns : List ℕ) → IsTrue (has_axes d ns) → rest ≢ numbers_text comma ns) → IsNoCommand d (codes "vget" ∷ cut_at space rest)
no_vget d rest none (Command.vget p) ok same = none p ok (tail_word (codes "vget") rest (numbers_text comma p) same)
no_vget d rest none c ok same = other_verb (codes "vget") c (cut_at space rest) refl same

pub no_set : (d : ℕ) (rest : List ℕ) → NoPositionAndValue d (cut_at space rest) → IsNoCommand d (codes "set" ∷ cut_at space rest)
no_set d rest none c ok same = search rules

pub no_add : (d : ℕ) (rest : List ℕ) → NoPositionAndValue d (cut_at space rest) → IsNoCommand d (codes "add" ∷ cut_at space rest)
no_add d rest none c ok same = search rules

pub no_vset : (d : ℕ) (rest : List ℕ) → NoPositionAndValue d (cut_at space rest) → IsNoCommand d (codes "vset" ∷ cut_at space rest)
no_vset d rest none c ok same = search rules

pub no_fill : (d : ℕ) (rest : List ℕ) → ((v : ℤ) → IsTrue (is_value v) → rest ≢ signed_decimal v) → IsNoCommand d (codes "fill" ∷ cut_at space rest)
no_fill d rest none (Command.fill v) ok same = none v ok (tail_word (codes "fill") rest (signed_decimal v) same)
no_fill d rest none c ok same = other_verb (codes "fill") c (cut_at space rest) refl same

pub no_lines : (d : ℕ) (rest : List ℕ) → ((n : ℕ) → n < 2 ^ 64 → rest ≢ decimal n) → IsNoCommand d (codes "lines" ∷ cut_at space rest)
no_lines d rest none (Command.lines l) ok same = none l (ltb-true l _ ok) (tail_word (codes "lines") rest (decimal l) same)
no_lines d rest none c ok same = other_verb (codes "lines") c (cut_at space rest) refl same

pub no_resize : (d : ℕ) (rest : List ℕ) → ((ns : List ℕ) → IsTrue (has_sizes ns) → rest ≢ numbers_text letter_x ns) → IsNoCommand d (codes "resize" ∷ cut_at space rest)
no_resize d rest none (Command.resize s) ok same = none s ok (tail_word (codes "resize") rest (numbers_text letter_x s) same)
no_resize d rest none c ok same = other_verb (codes "resize") c (cut_at space rest) refl same

no_sum : (d : ℕ) (rest : List ℕ) → IsNoCommand d (codes "sum" ∷ cut_at space rest)
no_sum d rest Command.sum ok same = word_behind (codes "sum") rest same
no_sum d rest c ok same = other_verb (codes "sum") c (cut_at space rest) refl same

no_vsum : (d : ℕ) (rest : List ℕ) → IsNoCommand d (codes "vsum" ∷ cut_at space rest)
no_vsum d rest Command.vsum ok same = word_behind (codes "vsum") rest same
no_vsum d rest c ok same = other_verb (codes "vsum") c (cut_at space rest) refl same

no_flush : (d : ℕ) (rest : List ℕ) → IsNoCommand d (codes "flush" ∷ cut_at space rest)
no_flush d rest Command.flush ok same = word_behind (codes "flush") rest same
no_flush d rest c ok same = other_verb (codes "flush") c (cut_at space rest) refl same

no_discard : (d : ℕ) (rest : List ℕ) → IsNoCommand d (codes "discard" ∷ cut_at space rest)
no_discard d rest Command.discard ok same = word_behind (codes "discard") rest same
no_discard d rest c ok same = other_verb (codes "discard") c (cut_at space rest) refl same

no_stats : (d : ℕ) (rest : List ℕ) → IsNoCommand d (codes "stats" ∷ cut_at space rest)
no_stats d rest Command.stats ok same = word_behind (codes "stats") rest same
no_stats d rest c ok same = other_verb (codes "stats") c (cut_at space rest) refl same

no_join : (d : ℕ) (rest : List ℕ) → IsNoCommand d (codes "join" ∷ cut_at space rest)
no_join d rest Command.join ok same = word_behind (codes "join") rest same
no_join d rest c ok same = other_verb (codes "join") c (cut_at space rest) refl same

-- a verb that stands alone has no words behind it, and one on one value is not among these
pub no_words : (d : ℕ) (verb : Verb) (rest : List ℕ) → ((other : ValueVerb) → verb_word verb ≢ value_verb_word other) → verb ≢ verbs.Fill → verb ≢ verbs.View → verb ≢ verbs.Slice → verb ≢ verbs.Lines → verb ≢ verbs.Resize → verb ≢ verbs.Split → IsNoCommand d (verb_word verb ∷ cut_at space rest)
no_words d verbs.Sum rest other fill view slice lines resize split = no_sum d rest
no_words d verbs.VSum rest other fill view slice lines resize split = no_vsum d rest
no_words d verbs.Flush rest other fill view slice lines resize split = no_flush d rest
no_words d verbs.Discard rest other fill view slice lines resize split = no_discard d rest
no_words d verbs.Stats rest other fill view slice lines resize split = no_stats d rest
no_words d verbs.Join rest other fill view slice lines resize split = no_join d rest
no_words d verbs.Get rest other fill view slice lines resize split = absurd (other value_verbs.Get refl)
no_words d verbs.Set rest other fill view slice lines resize split = absurd (other value_verbs.Set refl)
no_words d verbs.Add rest other fill view slice lines resize split = absurd (other value_verbs.Add refl)
no_words d verbs.VGet rest other fill view slice lines resize split = absurd (other value_verbs.VGet refl)
no_words d verbs.VSet rest other fill view slice lines resize split = absurd (other value_verbs.VSet refl)
no_words d verb rest other fill view slice lines resize split = absurd (search rules)

-- ---- words that are on a view
-- the first word is that of a view, the second one a verb, and the others are these
abbrev pub BeginsOnView : List ℕ → List (List ℕ) → Command → Type 0
BeginsOnView verb rest (Command.pget i p) = (verb ≡ codes "get") × (rest ≡ numbers_text comma p ∷ [])
BeginsOnView verb rest (Command.pset i p v) = (verb ≡ codes "set") × (rest ≡ numbers_text comma p ∷ signed_decimal v ∷ [])
BeginsOnView verb rest (Command.padd i p v) = (verb ≡ codes "add") × (rest ≡ numbers_text comma p ∷ signed_decimal v ∷ [])
BeginsOnView verb rest (Command.pflush i) = (verb ≡ codes "flush") × (rest ≡ [])
BeginsOnView verb rest (Command.pdiscard i) = (verb ≡ codes "discard") × (rest ≡ [])
BeginsOnView verb rest (Command.pstats i) = (verb ≡ codes "stats") × (rest ≡ [])
BeginsOnView verb rest _ = ⊥

begins_on_view : (word verb : List ℕ) (rest : List (List ℕ)) (c : Command) → (64 ∷ word) ∷ verb ∷ rest ≡ words_of c → BeginsOnView verb rest c
begins_on_view word verb rest c same = search rules

-- words that differ
differ : (a b : List ℕ) → bytes_eq a b ≡ false → a ≡ b → ⊥
differ a b apart same = false≢true (sym apart ∙ (bytes_eq-Decides a b).1 same)

-- the verb of a command, or of one on a view the verb behind the view's word
verb_of : Command → Verb
verb_of (Command.get p) = verbs.Get
verb_of (Command.set p v) = verbs.Set
verb_of (Command.add p v) = verbs.Add
verb_of (Command.fill v) = verbs.Fill
verb_of Command.sum = verbs.Sum
verb_of (Command.view p s t) = verbs.View
verb_of (Command.slice a i) = verbs.Slice
verb_of (Command.vget p) = verbs.VGet
verb_of (Command.vset p v) = verbs.VSet
verb_of Command.vsum = verbs.VSum
verb_of Command.flush = verbs.Flush
verb_of Command.discard = verbs.Discard
verb_of (Command.lines l) = verbs.Lines
verb_of (Command.resize s) = verbs.Resize
verb_of Command.stats = verbs.Stats
verb_of (Command.split n l) = verbs.Split
verb_of Command.join = verbs.Join
verb_of (Command.pget i p) = verbs.Get
verb_of (Command.pset i p v) = verbs.Set
verb_of (Command.padd i p v) = verbs.Add
verb_of (Command.pflush i) = verbs.Flush
verb_of (Command.pdiscard i) = verbs.Discard
verb_of (Command.pstats i) = verbs.Stats

-- the first word of a command is its verb, or that of a view before another word
pub record HasViewWord (c : Command) : Type 0 where
  at_sign : get_or (get_or (words_of c) 0 []) 0 0 ≡ 64
  more : 2 ≤ length (words_of c)
  verb : get_or (words_of c) 1 [] ≡ verb_word (verb_of c)

first_word : (c : Command) → (get_or (words_of c) 0 [] ≡ verb_word (verb_of c)) ⊎ HasViewWord c
unfolding verb_of
first_word x = search rules

-- words whose first one is no verb, and does not begin with `@`, are no command
pub no_verb : (d : ℕ) (word : List ℕ) (rest : List (List ℕ)) → get_or word 0 0 ≢ 64 → ((verb : Verb) → word ≢ verb_word verb) → IsNoCommand d (word ∷ rest)
no_verb d word rest no_view none c ok same = elim (first_word c) [
  | inl is ↦ none (verb_of c) (ap (λ ws. get_or ws 0 []) same ∙ is)
  | inr view ↦ no_view (ap (λ ws. get_or (get_or ws 0 []) 0 0) same ∙ view.at_sign)
]

-- a word of no bytes does not
pub nothing_first : (word : List ℕ) → length word < 1 → get_or word 0 0 ≢ 64
nothing_first [] none e = omega (arith, e)
nothing_first (b ∷ bs) none e = omega arith

-- and so is a word alone that is no verb
pub no_word : (d : ℕ) (words : List (List ℕ)) (word : List ℕ) → words ≡ word ∷ [] → ((verb : Verb) → word ≢ verb_word verb) → IsNoCommand d words
no_word d words word is none c ok same = elim (first_word c) [
  | inl first ↦ none (verb_of c) (ap (λ ws. get_or ws 0 []) (sym is ∙ same) ∙ first)
  | inr view ↦ let many = view.more in omega (arith, many, ap length is, ap length same)
]

-- behind the word of a view a word that is no verb
pub no_view_verb : (d i : ℕ) (word : List ℕ) (words rest : List (List ℕ)) → words ≡ word ∷ rest → ((verb : Verb) → word ≢ verb_word verb) → IsNoCommand d (view_word i ∷ words)
no_view_verb d i word words rest is none c ok same = elim (first_word c) [
  | inl first ↦ not_first c (sym first ∙ ap (λ ws. get_or ws 0 []) (sym same))
  | inr view ↦ none (verb_of c) (ap (λ ws. get_or ws 0 []) (sym is) ∙ ap (λ ws. get_or ws 1 []) same ∙ view.verb)
]
  where
    -- a view's word is no verb
    not_first : (c : Command) → verb_word (verb_of c) ≡ view_word i → ⊥
    not_first c e = at_sign (verb_of c) (ap (λ w. get_or w 0 0) e)
      where
        at_sign : (verb : Verb) → get_or (verb_word verb) 0 0 ≡ 64 → ⊥
        at_sign verbs.Get e = omega (arith, e)
        at_sign verb e = omega (arith, e)

-- ---- commands on a view
module _ (d i : ℕ) (small : i < 2 ^ 64) (rest : List ℕ) where
  pub pget_command : (p : Pos) → IsAxesWord d comma 0 rest p → IsCommand d (view_word i ∷ codes "get" ∷ cut_at space rest) (cmds.PGet i p)
  pget_command p axes = search (rules, and_from, lt-ltb, last_word, position_no_space)

-- ---- words on a view that are no command
pub no_pget : (d i : ℕ) (rest : List ℕ) → ((ns : List ℕ) → IsTrue (has_axes d ns) → rest ≢ numbers_text comma ns) → IsNoCommand d (view_word i ∷ codes "get" ∷ cut_at space rest)
no_pget d i rest none c ok same = search (rules, begins_on_view, and_parts, one_word, differ)

-- the word of another verb
not_get : (verb : Verb) → verb ≢ verbs.Get → bytes_eq (verb_word verb) (codes "get") ≡ false
not_get verbs.Get other = absurd (other refl)
not_get verb other = refl

not_set : (verb : Verb) → verb ≢ verbs.Set → bytes_eq (verb_word verb) (codes "set") ≡ false
not_set verbs.Set other = absurd (other refl)
not_set verb other = refl

not_add : (verb : Verb) → verb ≢ verbs.Add → bytes_eq (verb_word verb) (codes "add") ≡ false
not_add verbs.Add other = absurd (other refl)
not_add verb other = refl

-- a verb that stands alone on a view, or is none of its verbs, has no words behind it
pub no_pwords : (d i : ℕ) (verb : Verb) (rest : List ℕ) → verb ≢ verbs.Get → verb ≢ verbs.Set → verb ≢ verbs.Add → IsNoCommand d (view_word i ∷ verb_word verb ∷ cut_at space rest)
no_pwords d i verb rest get set add c ok same = by c (begins_on_view (decimal i) (verb_word verb) (cut_at space rest) c same)
  where
    some : cut_at space rest ≡ [] → ⊥
    some e = omega (arith, some_part space rest, ap length e)

    by : (c : Command) → BeginsOnView (verb_word verb) (cut_at space rest) c → ⊥
    by (Command.pget j p) h = differ (verb_word verb) (codes "get") (not_get verb get) h.0
    by (Command.pset j p v) h = differ (verb_word verb) (codes "set") (not_set verb set) h.0
    by (Command.padd j p v) h = differ (verb_word verb) (codes "add") (not_add verb add) h.0
    by (Command.pflush j) h = some h.1
    by (Command.pdiscard j) h = some h.1
    by (Command.pstats j) h = some h.1
    by c h = h

-- ---- the answer to a line, of which these are the words
module _ (d : ℕ) (line : List ℕ) (words : List (List ℕ)) (same : cut_at space line ≡ words) where
  pub read_some : (cmd : Cmd) → 1 ≤ d → IsCommand d words cmd → read_line d line ≡ Some (command_of d cmd)
  read_some cmd some is = search (rules, joined-cut_at, read_line_iff)

  pub read_none : IsNoCommand d words → read_line d line ≡ None
  read_none none = read_line-None d line (λ c ok is. none c ok (sym same ∙ ap (cut_at space) is ∙ cut_at-line_of d c ok))

  -- where it comes of an option
  pub parsed_ok : (o : Option Cmd) (r : Result Cmd Refusal) → 1 ≤ d → r ≡ ok_or o refusals.Word → IfSome o (λ cmd. IsCommand d words cmd) → IfOk r (λ cmd. read_line d line ≡ Some (command_of d cmd))
  parsed_ok None r some is command = rw is tt
  parsed_ok (Some cmd) r some is command = rw is (read_some cmd some command)

  pub parsed_err : (o : Option Cmd) (r : Result Cmd Refusal) → r ≡ ok_or o refusals.Word → IfNone o (IsNoCommand d words) → IfErr r (λ why. (why ≡ refusals.Word) × (read_line d line ≡ None))
  parsed_err None r is none = rw is (refl, read_none none)
  parsed_err (Some cmd) r is none = rw is tt

-- ---- a part of a line that is asked for
pub given : {A : Type 0} (P : A → Type 0) (o : Option A) (r : Result A Refusal) (a : A) → r ≡ ok_or o refusals.Word → r ≡ Ok a → IfSome o P → P a
given _ _ r a is ok some = search rules

pub lacking : {A N : Type 0} (o : Option A) (r : Result A Refusal) (why : Refusal) → r ≡ ok_or o refusals.Word → r ≡ Err why → IfNone o N → (why ≡ refusals.Word) × N
lacking _ r why is err none = search rules
