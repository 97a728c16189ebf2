-- Changes of an array as steps of a script.
use Rattle.std.proofs.Common.{rules, ◌≡◌, refl, sym, ap, subst, ◌∙◌, ℕ, ◌^◌, ℤ, Bool, true, not, List, length, replicate, set, Option, None}
use Rattle.std.specs.Int.{Width}
use Rattle.zf_base.{specs.Places.{block_number, place_of}, specs.declared.position.Pos.{Pos}}
use Rattle.zf_base.specs.Positions.{used_axes, with_unused, IsPosition}
use Rattle.zf_cached.{specs.Arrays.{array_format}, specs.Commands.{Command}, specs.Replies.{Reply}}
use Rattle.zf_cached.{specs.Runs.{array_setting}, specs.State.{State}, specs.Windows.{Window, LiesIn, mapped}}
use Rattle.zf_cached.specs.Touch.{touch_for_writing, with_values}
use Rattle.zf_cached.specs.Steps.{changed, changed_at, is_of_type, done}
use Rattle.zf_header.specs.declared.header.Header.{Header}
use Rattle.zf_array.specs.Standing.{Held, shape, state, format, array_of, block_at, place_at}
use Rattle.zf_commands.{specs.Steps.{Does}, proofs.Commanding.{within, numbers_there}}
use Rattle.zf_commands.proofs.Stepping.{accepted}
use Rattle.zf_run.{specs.Sessions.{setting_of, session_of, IsArray}, proofs.Sessions.{changed_there, array_suits}}

-- an array that is as it was
pub same_array : (w : Width) (c : Command) (a b : Held) (v : Window) (reply : Option Reply) → b ≡ a → Does (setting_of w a) c (session_of a v) (session_of a v) reply
    → Does (setting_of w a) c (session_of a v) (session_of b v) reply
same_array w c a b v reply same does = subst (λ x. Does (setting_of w a) c (session_of a v) (session_of x v) reply) (sym same) does

module _ (w : Width) (a : Held) (dim : ℕ) (is : IsArray w dim a.header) where
  module _ (v : Window) (lies : LiesIn (shape a) v) (b : Held) (head : b.header ≡ a.header) where
    in_window : LiesIn (shape b) v
    in_window = subst (λ ns. LiesIn ns v) (ap (λ h. h.shape) (sym head)) lies

    -- ---- one value of the window

    module _ (p : Pos) (at : IsPosition v.size p) where
      pub put_there : (r : Pos) (n m : ℤ) → r ≡ with_unused 0 (mapped v (used_axes (length v.size) p)) → m ≡ n → is_of_type w n ≡ true
          → state b ≡ (let t = touch_for_writing (format a) (state a) (block_at a r) in with_values t (block_at a r) (set (t.values (block_at a r)) (place_at a r) m))
          → Does (setting_of w a) (Command.vset (used_axes (length (shape a)) p) n) (session_of a v) (session_of b v) None
      unfolding done array_setting
      put_there r n m same value of_type changes =
          let ps = used_axes (length (shape a)) p in
          let t = touch_for_writing (format a) (state a) (block_at a r) in
          let put = λ (x : ℤ). with_values t (block_at a r) (set (t.values (block_at a r)) (place_at a r) x) in
          let is_r : used_axes (length (shape a)) r ≡ mapped v ps = ap (used_axes (length (shape a))) same ∙ numbers_there (shape a) v is.sizes lies p in
          accepted (setting_of w a) (Command.vset ps n) (session_of a v) lies refl refl (ap not (within (shape a) v lies p at)) (ap not of_type) (session_of b v) None refl
          (λ i. (changed_there {v = v} (state a) (mapped v ps) (block_at a r) (place_at a r) (λ old. n) (changes ∙ ap put value) (array_suits w a.header is.same_type) head (ap (block_number (shape a)) is_r) (ap place_of is_r) i, None))
          in_window

-- an array after a touch
pub header_after : (h : Header) (s : State (List Bool)) → (array_of h s).header ≡ h
unfolding array_of
header_after h s = refl
