use Rattle.std.proofs.Common.{◌≡◌, ◌≢◌, refl, ℕ, false, IsTrue, arith, rules}
use Rattle.std.proofs.lemmas.Bool.{cases_eq}
use Rattle.zf_store.proofs.Opened.{parse_one, parse_more, whole_file}
use Rattle.zf_store.proofs.file.check_file.Goals as goal

pub returns-then-has_one_in_fill-clause-err : goal.returns-then-has_one_in_fill-clause-err
returns-then-has_one_in_fill-clause-err c =
    parse_one c.args.file.now c.args.h.now c.requires _ refl (omega (arith, c.if-len-whole.false, c.rate_bytes-whole.ensures)) (c.if-has_one_in_fill.ensures.0 (search rules))

none_found : (n : ℕ) → (IsTrue false → n ≢ 0) × (n ≢ 0 → IsTrue false) → n ≡ 0
none_found n both = grind (arith, cases_eq n 0)

pub returns-then-len-whole-2-clause-err : goal.returns-then-len-whole-2-clause-err
returns-then-len-whole-2-clause-err c = search (rules, parse_more, none_found)

pub returns-clause-ok : goal.returns-clause-ok
returns-clause-ok c = search (rules, whole_file, none_found)
