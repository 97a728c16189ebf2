use Rattle.std.proofs.Common.{rules, sym, ap, ◌∙◌, ℤ, pos, List, get_or, lit<}
use Rattle.std.proofs.lemmas.Bool.{OnTrue_at}
use Rattle.zf_store.specs.Stored.{format_of, code_at}
use Rattle.zf_twoway.proofs.Standing.{values_stand}
use Rattle.zf_commands.proofs.Wide.{wide}
use Rattle.zf_run.proofs.Sessions.{touched_is, two_suits, still_array, rate_blocks}
use Rattle.zf_run.proofs.Pairing.{block_below, place_below, place_exists, same_header, same_pair}
use Rattle.zf_run.proofs.pairs.PairTarget.value_at.Goals as goal

pub get-requires : goal.get-requires
get-requires g c =
    let h = c.args.self.now.store.now.header in let w = g.T.Lane.width in let array = c.requires.sound.array in let at = c.requires.at in
    (lit< tt, (record { fits = c.requires.sound.fits; blocks = rate_blocks w g.row.D h array; below = block_below h c.args.b at.block_in_array }, place_below w g.row.D h array c.requires.position c.args.b c.args.place at))

pub returns-clause-touched : goal.returns-clause-touched
returns-clause-touched g c = search (rules, touched_is, two_suits, still_array, same_header, same_pair)

pub returns-clause-value : goal.returns-clause-value
returns-clause-value g c =
    let value = g.T.Lane.value in let t = c.get.new.back in
    wide g.T.Lane.width g.met.T.Lane.two_widths c.to_wide.result (value c.get.result) c.to_wide.ensures.value (g.met.T.Lane.in_range_fits (value c.get.result)) c.to_wide.ensures.operand
    ∙ OnTrue_at (place_exists c.args.self.now.store.now.header c.requires.position c.args.b c.args.place c.requires.at) c.get.ensures.value
    ∙ ap (λ (vs : List ℤ). get_or vs c.args.place (pos 0)) (sym (values_stand value c.get.new.self (format_of t) (code_at t) c.args.b))
