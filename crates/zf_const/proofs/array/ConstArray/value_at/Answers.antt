use Rattle.std.proofs.Common.{◌≡◌, sym, ap, subst, ◌∙◌, ℕ, ◌<◌, ◌^◌, pos, Bool, true, List, get_or, lit<}
use Rattle.std.proofs.lemmas.Bool.{OnTrue_at}
use Rattle.zf_base.specs.Places.{IsAt}
use Rattle.zf_header.specs.declared.header.Header.{Header}
use Rattle.zf_cached.{specs.State.{State}, specs.Touch.{touch}, specs.Arrays.{array_format}}
use Rattle.zf_cache.specs.Standing.{state_at}
use Rattle.zf_const.specs.Parts.{Coded, format_of}
use Rattle.zf_const.proofs.Standing.{state_held, has_blocks, header_now, joined_after, header_after, codes_after, step}
use Rattle.zf_const.proofs.array.ConstArray.value_at.Goals as goal

below : (s : Coded) (ps : List ℕ) (b k : ℕ) → IsAt s.header.shape ps b k → b < (format_of s).blocks
unfolding array_format
below s ps b k at = at.block_in_array

exists_there : (s : Coded) (ps : List ℕ) (b k : ℕ) → IsAt s.header.shape ps b k → (format_of s).exists b k ≡ true
unfolding array_format
exists_there s ps b k at = at.exists

pub get_read-requires : goal.get_read-requires
get_read-requires g c =
    let s = c.self.inside in
    let at = subst (λ (h : Header). IsAt h.shape c.requires.0 c.args.b c.args.place) (header_now g.T.Lane.value g.T.Lane.width g.row.D s.codes s.cache c.self.invariant c.args.self.now c.self.view_is) c.requires.1 in
    let place = subst (λ n. c.args.place < 4 ^ n) c.self.invariant.dims at.place_in_block in
    (lit< tt, (record { fits = c.self.invariant.fits; blocks = has_blocks g.T.Lane.value g.T.Lane.width g.row.D s.codes s.cache c.self.invariant; below = below s.codes c.requires.0 c.args.b c.args.place at }, (c.self.invariant.clean, place)))

pub invariant_of-self : goal.invariant_of-self
invariant_of-self g c =
    joined_after _ _ _ _ _ c.self.invariant c.args.self.now c.self.view_is c.get_read.new.back c.get_read.new.self c.get_read.ensures.step.kept c.get_read.ensures.step.fits c.get_read.ensures.clean

pub returns : goal.returns
unfolding state_at
returns g c =
    let s = c.self.inside in
    record {
      state = step g.T.Lane.value g.T.Lane.width g.row.D s.codes s.cache c.self.invariant c.args.self.now c.self.view_is c.get_read.new.back c.get_read.new.self c.get_read.ensures.step.kept c.get_read.ensures.step.fits c.get_read.ensures.clean
          (λ f u. touch f u c.args.b) c.get_read.ensures.step.state;
      value =
          let b = c.args.b in
          let k = c.args.place in
          let at = subst (λ (h : Header). IsAt h.shape c.requires.0 b k) (header_now g.T.Lane.value g.T.Lane.width g.row.D s.codes s.cache c.self.invariant c.args.self.now c.self.view_is) c.requires.1 in
          OnTrue_at (exists_there s.codes c.requires.0 b k at) c.get_read.ensures.value
          ∙ ap (λ (u : State (List Bool)). get_or (u.values b) k (pos 0)) (sym (state_held g.T.Lane.value c.get_read.new.back c.get_read.new.self c.get_read.ensures.step.fits c.get_read.ensures.clean));
      header = header_after g.T.Lane.value g.T.Lane.width g.row.D s.codes s.cache c.self.invariant c.args.self.now c.self.view_is c.get_read.new.back c.get_read.new.self c.get_read.ensures.step.kept c.get_read.ensures.step.fits c.get_read.ensures.clean;
      codes = codes_after g.T.Lane.value g.T.Lane.width g.row.D s.codes s.cache c.self.invariant c.args.self.now c.self.view_is c.get_read.new.back c.get_read.new.self c.get_read.ensures.step.kept c.get_read.ensures.step.fits c.get_read.ensures.clean;
    }
