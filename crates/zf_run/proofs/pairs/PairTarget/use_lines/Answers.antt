use Rattle.std.{proofs.Common.{rules, ap, ◌∙◌, ℕ, Bool, List}, proofs.lemmas.Result.{on_ok_weaker, on_err_weaker}}
use Rattle.zf_cached.specs.Changes.{relined}
use Rattle.zf_store.specs.Stored.{format_of}
use Rattle.zf_run.{specs.Pairs.{pair_state}, proofs.Sessions.{lined_is, two_suits, still_array, rate_blocks}}
use Rattle.zf_run.proofs.Pairing.{same_header, same_store, same_pair}
use Rattle.zf_run.proofs.pairs.PairTarget.use_lines.Goals as goal

pub relined-requires : goal.relined-requires
relined-requires g c = search (rules, rate_blocks)

pub returns-clause-ok : goal.returns-clause-ok
returns-clause-ok g c =
    let s = c.args.self.now.store.now in let now = pair_state g.T.Lane.value s c.args.self.now.cache.now in let told = c.relined.ensures in
    let t = c.relined.new.back in let array = c.requires.sound.array in let head = same_header s.header t.header _ _ told.keeps.kept in
    on_ok_weaker c.relined.result (λ is. record {
      does = lined_is now c.args.count (is ∙ ap (relined (format_of s) now) c.raised.ensures.value) (two_suits g.T.Lane.width s.header array.same_type) head;
      sound = record { array = still_array g.T.Lane.width g.row.D s.header t.header head array; fits = told.fits };
      kept = same_pair _ _ s.header t.header head;
    }) told.ok

pub returns-clause-err : goal.returns-clause-err
returns-clause-err g c =
    let s = c.args.self.now.store.now in let t = c.relined.new.back in on_err_weaker c.relined.result (λ same.
    let stores = same_store s t c.relined.ensures.keeps.kept (λ b. ap (λ (codes : ℕ → List Bool). codes b) same.1) in
    λ i. record { store = record c.args.self.now.store { now = stores i }; cache = record c.args.self.now.cache { now = same.0 i }; window = c.args.self.now.window }) c.relined.ensures.err
