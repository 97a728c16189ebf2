use Rattle.std.proofs.Common.{◌≡◌, sym, ap, ◌*◌, ◌++◌, length, drop, rules}
use Rattle.std.proofs.lemmas.List.{length-take-le}
use Rattle.zfpi_c.proofs.values.put_over.Goals as goal

pub returns : goal.returns
returns g c =
    let size : length c.put_raw.new.bytes ≡ length c.args.values.now * c.value_len.result = search (rules, length-take-le) in
    record {
      text = c.put_raw.new.bytes;
      is = c.put_raw.ensures.bytes;
      written = ap (λ k. c.put_raw.new.bytes ++ drop k c.args.out.now) (sym size);
    }
