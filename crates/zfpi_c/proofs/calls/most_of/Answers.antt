use Rattle.std.proofs.Common.{◌≡◌, sym, subst, ◌∙◌, ◌≤◌, length, Result}
use Rattle.zf_header.{specs.declared.header.Header.{Header}}
use Rattle.zf_stream.proofs.Lengths.{stream_at_rate}
use Rattle.zfpi_c.specs.declared.status.Status.{Status}
use Rattle.zfpi_c.specs.Fields.{narrow_of, text_with}
use Rattle.zfpi_c.proofs.Narrowed.{of_all}
use Rattle.zfpi_c.proofs.calls.most_of.Goals as goal

pub returns-clause-ok : goal.returns-clause-ok
returns-clause-ok c =
    let n = narrow_of c.args.field.now.ty in
    let h = c.in_ok-header.header in
    let most = c.most_bytes.result in
    let says = c.in_ok-header.ensures.answer in
    record {
      header = h;
      says = sym says;
      bound = λ raw. subst (λ (a : Result Header Status). length (text_with n a raw) ≤ most) says (of_all (λ k. k ≤ most) n h c.most_bytes.ensures.bound raw);
      rate = λ rate raw. subst (λ (a : Result Header Status). length (text_with n a raw) ≡ most) says (of_all (λ k. k ≡ most) n h (λ bytes. stream_at_rate h bytes rate ∙ sym (c.most_bytes.ensures.rate rate)) raw);
    }
