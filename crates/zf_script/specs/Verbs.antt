-- The first words of lines.
use Rattle.std.specs.Prelude.{ℕ, ◌≢◌, List, ◌∷◌, codes}
use Rattle.zf_cached.specs.Grammar.{space, cut_at}
use Rattle.zf_script.specs.declared.verb.ValueVerb.{ValueVerb}
use Rattle.zf_script.specs.declared.verb.ValueVerb.TheVariants as value_verbs
use Rattle.zf_script.specs.declared.verb.Verb.{Verb}
use Rattle.zf_script.specs.declared.verb.Verb.TheVariants as verbs

-- the word of a verb
abbrev pub verb_word : Verb → List ℕ
verb_word verbs.Get = codes "get"
verb_word verbs.Set = codes "set"
verb_word verbs.Add = codes "add"
verb_word verbs.Fill = codes "fill"
verb_word verbs.Sum = codes "sum"
verb_word verbs.View = codes "view"
verb_word verbs.Slice = codes "slice"
verb_word verbs.VGet = codes "vget"
verb_word verbs.VSet = codes "vset"
verb_word verbs.VSum = codes "vsum"
verb_word verbs.Flush = codes "flush"
verb_word verbs.Discard = codes "discard"
verb_word verbs.Lines = codes "lines"
verb_word verbs.Resize = codes "resize"
verb_word verbs.Stats = codes "stats"
verb_word verbs.Split = codes "split"
verb_word verbs.Join = codes "join"

-- the word of a verb on one value
abbrev pub value_verb_word : ValueVerb → List ℕ
value_verb_word value_verbs.Get = codes "get"
value_verb_word value_verbs.Set = codes "set"
value_verb_word value_verbs.Add = codes "add"
value_verb_word value_verbs.VGet = codes "vget"
value_verb_word value_verbs.VSet = codes "vset"

-- the line does not begin with the word of such a verb and a space
abbrev pub HasNoValueVerb : List ℕ → Type 0
HasNoValueVerb line = (verb : ValueVerb) (rest : List ℕ) → cut_at space line ≢ value_verb_word verb ∷ cut_at space rest
