use Rattle.std.{proofs.Common.{◌≡◌, refl, sym, ap, subst, ◌∙◌, ℕ, ℤ, Result, Ok, Err}, specs.Int.{Width}}
use Rattle.std.{specs.Prelude.{OnOk, OnErr}, proofs.lemmas.Result.{on_ok_weaker}}
use Rattle.zf_cached.specs.Changes.{relined}
use Rattle.zf_cache.{proofs.Steps.{empty_fits, relined_clean}, specs.Kept.{Kept, IsEmpty}}
use Rattle.zf_const.{specs.Standing.{format, state}, specs.Parts.{Coded, code_at, format_of, IsJoined}}
use Rattle.zf_const.proofs.Standing.{clean_empty, step}
use Rattle.zf_const.proofs.array.ConstArray.set_lines.Goals as goal

-- new lines are empty; and without memory they are the old ones
joined_by : {X : Type 0} (value : X → ℤ) (w : Width) (d : ℕ) (s : Coded) (old new : Kept X) (n : ℕ) {E : Type 0} (r : Result (Unit {0}) E) → IsJoined value w d s old
    → OnOk r (IsEmpty new n × (new.counts ≡ old.counts)) → OnErr r (new ≡ old) → IsJoined value w d s new
joined_by value w d s old new n (Ok u) joined empty same = record {
  same_type = joined.same_type;
  dims = joined.dims;
  header = joined.header;
  count = joined.count;
  fits = empty_fits value (format_of s) (code_at s) new n empty.0;
  clean = clean_empty new n empty.0;
}
joined_by value w d s old new n (Err e) joined empty same = subst (IsJoined value w d s) (sym same) joined

pub invariant_of-self : goal.invariant_of-self
invariant_of-self g c =
    let s = c.self.inside in let after = c.relined_read in
    joined_by g.T.Lane.value g.T.Lane.width g.row.D s.codes s.cache after.new.self c.raised.result after.result c.self.invariant after.ensures.ok after.ensures.err

pub returns-clause-ok : goal.returns-clause-ok
returns-clause-ok g c =
    let s = c.self.inside in
    let now = c.args.self.now in
    let d = c.relined_read.new.self in
    let n = c.raised.result in
    on_ok_weaker c.relined_read.result (λ is.
    step g.T.Lane.value g.T.Lane.width g.row.D s.codes s.cache c.self.invariant now c.self.view_is s.codes d refl
    (empty_fits g.T.Lane.value (format_of s.codes) (code_at s.codes) d n is.0) (clean_empty d n is.0)
    (λ f u. relined f u n) (relined_clean g.T.Lane.value (format_of s.codes) (code_at s.codes) s.cache d n c.self.invariant.clean c.self.invariant.fits is.0 is.1)
    ∙ ap (relined (format now) (state now)) c.raised.ensures.value) c.relined_read.ensures.ok
