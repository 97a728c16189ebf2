use Rattle.std.proofs.Common.{rules, ◌≡◌, sym, ap, ◌++◌, length, drop}
use Rattle.std.proofs.lemmas.List.{length-take-le}
use Rattle.zfpi_c.proofs.over.index.Goals as goal

pub returns-clause-ok : goal.returns-clause-ok
returns-clause-ok c =
    let size : length c.write_places.new.places ≡ c.blocks-count.result = search (rules, length-take-le) in
    record {
      text = c.write_places.new.places;
      is = record { count = search (rules, size); are = search rules };
      written = ap (λ k. c.write_places.new.places ++ drop k c.args.places.now) (sym size);
    }
