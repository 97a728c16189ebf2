use Rattle.std.proofs.Common.{rules, ◌++◌, ◌∷◌, [], decimal, take, ap, ◌∙◌, append_assoc}
use Rattle.zf_words.{specs.Words.{shape_word}, proofs.ShapeWords.{shape_word_more}}
use Rattle.zf_program.proofs.commands.line.push_shape.Goals as goal

pub loop-axis-preserved : goal.loop-axis-preserved
loop-axis-preserved c =
    let ns = c.args.shape.now in
    let start = c.args.line.now.bytes in
    let at = c.loop-axis.axis in
    let digits = decimal c.size-in-loop-axis.result in
    let text = c.push_number-in-loop-axis.ensures.text
    ∙ (ap (λ prefix. prefix ++ digits) c.push_str.ensures.bytes
    ∙ (append_assoc c.loop-axis.line.bytes (120 ∷ []) digits
    ∙ (ap (λ prefix. prefix ++ 120 ∷ digits) c.loop-axis.invariant.text
    ∙ ap (λ n. (start ++ shape_word (take at ns)) ++ 120 ∷ decimal n) c.size-in-loop-axis.ensures))) in
    search (rules, shape_word_more)
