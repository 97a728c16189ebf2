use Rattle.std.proofs.Common.{refl, sym, ap, ◌∙◌, rules}
use Rattle.std.proofs.lemmas.List.{take_at}
use Rattle.zf_store.specs.Stored.{file_of}
use Rattle.zf_array.{proofs.Standing.{stored_now, header_now}, proofs.Steps.{saved_is}}
use Rattle.zf_array.proofs.array.Array.save_bytes.Goals as goal

pub returns : goal.returns
returns g c =
    let now = stored_now _ _ _ _ _ _ c.self.invariant c.args.self.now c.self.view_is in
    let value = c.deref.ensures.value ∙ take_at c.write_file.new.out _ c.self.inside.buffer.len (c.write_file.auto.out ∙ c.deref_mut.ensures.len) ∙ c.write_file.ensures ∙ ap file_of (sym now) in
    ((refl, λ _. tt, c.self.view_is), record { unchanged = tt; value = value; saved = search (rules, saved_is, header_now, stored_now, value) })
