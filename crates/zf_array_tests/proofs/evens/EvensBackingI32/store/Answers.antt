use Rattle.std.proofs.Common.{◌≡◌, sym, ap, ◌∙◌, ℤ, List, [], map, length, slice_index_or, slice_set}
use Rattle.std.proofs.lemmas.List.{map-id}
use Rattle.zf_array_tests.specs.EvenValues.{even_below, evens_format}
use Rattle.zf_array_tests.proofs.RoundedDown.{existing_of-evens, with_block}
use Rattle.zf_base.specs.Formats.{existing_of, encoded}
use Rattle.zf_array_tests.proofs.evens.EvensBackingI32.store.Goals as goal

pub returns-clause-codes : goal.returns-clause-codes
unfolding encoded
returns-clause-codes c =
    let line : List ℤ = c.args.line.now in
    let n = length c.args.self.now.blocks.items in
    let loaded : map (λ (v : ℤ). v) line ≡ existing_of (evens_format n) c.args.b (map (λ (v : ℤ). v) line) =
    sym (existing_of-evens n c.args.b (map (λ (v : ℤ). v) line) (ap length (map-id line) ∙ c.requires.whole)) in
    let same : c.round_down.new.block ≡ map even_below (existing_of (evens_format n) c.args.b (map (λ (v : ℤ). v) line)) =
    sym (map-id c.round_down.new.block) ∙ c.round_down.ensures ∙ ap (λ xs. map even_below (map (λ (v : ℤ). v) xs)) c.copy_from_slice.ensures.after ∙ ap (map even_below) loaded in
    ap (λ x. λ k. slice_index_or (slice_set c.args.self.now.blocks.items c.args.b x) k []) same
    ∙ with_block c.args.self.now.blocks.items c.args.b (map even_below (existing_of (evens_format n) c.args.b (map (λ (v : ℤ). v) line))) c.requires.block
