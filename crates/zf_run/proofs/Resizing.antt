-- Shapes that an array may be resized to, and the array of another shape.
use Rattle.std.proofs.Common.{rules, ◌≡◌, refl, sym, ap, subst, ◌∙◌, ℕ, ◌<◌, ◌≤◌, true, false, not, ◌&&◌, eq-eqb, ne_eqb, List, length, replicate, None, is_none, arith}
use Rattle.std.{proofs.Math.Bool.{and-false}, proofs.lemmas.Bool.{and_from, le-leb, lt-leb}}
use Rattle.std.specs.Int.{Width}
use Rattle.zf_base.{specs.Widths.{width_of}, specs.Shapes.{shape_fault}, specs.declared.lane.Ty.{Ty}}
use Rattle.zf_header.{specs.declared.header.Header.{Header}, specs.declared.header.Mode.TheVariants.{Rate}}
use Rattle.zf_header.specs.HeaderBits.{header_bits, rate_bytes_of, block_bits}
use Rattle.zf_cached.{specs.Commands.{Command}, specs.Changes.{resized}, specs.Runs.{array_setting}}
use Rattle.zf_cached.specs.Arrays.{rate_coding, array_format, max_file, file_bytes}
use Rattle.zf_cached.specs.Windows.{Window, LiesIn, whole}
use Rattle.zf_cached.specs.Steps.{Setting, Session, is_new_shape, done}
use Rattle.zf_array.specs.Standing.{Held, shape, state, format}
use Rattle.zf_run.specs.Sessions.{setting_of, session_of, start_of, IsArray}
use Rattle.zf_commands.{specs.Steps.{Does}, proofs.Stepping.{accepted}}

module _ {Code : Type 0} (setting : Setting Code) (s : Session Code) (ns : List ℕ) where
  pub not_as_many : (length ns ≡ length s.shape → ⊥) → is_new_shape setting s ns ≡ false
  not_as_many other = ap (λ t. t && (is_none (shape_fault ns) && setting.has_room ns)) (ne_eqb (length ns) (length s.shape) other)

  pub no_room : setting.has_room ns ≡ false → is_new_shape setting s ns ≡ false
  no_room none = search (rules, and-false)

  pub is_new : length ns ≡ length s.shape → shape_fault ns ≡ None → setting.has_room ns ≡ true → is_new_shape setting s ns ≡ true
  is_new many good room = search (rules, and_from, eq-eqb)

-- the file of an array is as long as its header says
module _ (w : Width) (a : Held) (ty : Ty) (ms ns : List ℕ) (b : ℕ) (same : ms ≡ ns) (of_type : w ≡ width_of ty) (rate : b ≡ block_bits a.header.mode) where
  bytes : rate_bytes_of (record { ty = ty; shape = ms; mode = Rate b }) ≡ file_bytes w (block_bits a.header.mode) ns
  unfolding file_bytes header_bits
  bytes = search rules

  pub has_room_is : rate_bytes_of (record { ty = ty; shape = ms; mode = Rate b }) ≤ 1200000000 → (setting_of w a).has_room ns ≡ true
  unfolding array_setting
  has_room_is small = le-leb (file_bytes w (block_bits a.header.mode) ns) max_file (omega (arith, small, bytes))

  pub has_no_room : 1200000000 < rate_bytes_of (record { ty = ty; shape = ms; mode = Rate b }) → (setting_of w a).has_room ns ≡ false
  unfolding array_setting
  has_no_room large = lt-leb (file_bytes w (block_bits a.header.mode) ns) max_file (omega (arith, large, bytes))

-- an array that was resized
module _ (w : Width) (a : Held) (dim : ℕ) (is : IsArray w dim a.header) (v : Window) (lies : LiesIn (shape a) v) (b : Held) (ns ms : List ℕ) (same : ms ≡ ns) (new : is_new_shape (setting_of w a) (start_of a) ns ≡ true)
    (rate : a.header.mode ≡ Rate (block_bits a.header.mode)) (head : b.header ≡ record { ty = a.header.ty; shape = ms; mode = Rate (block_bits a.header.mode) }) where
  coded : array_format (rate_coding w (block_bits a.header.mode)) ns ≡ format b
  coded = search rules

  pub resizes : state b ≡ resized (format b) (replicate (block_bits a.header.mode) false) (state a) → (u : Window) → u ≡ whole ms → LiesIn ms u → Does (setting_of w a) (Command.resize ns) (session_of a v) (session_of b u) None
  unfolding done array_setting rate_coding
  resizes now u whole_is inside =
      let zero = replicate (block_bits a.header.mode) false in
      let sizes : ns ≡ b.header.shape = sym same ∙ sym (ap (λ (h : Header). h.shape) head) in
      let there : resized (array_format (rate_coding w (block_bits a.header.mode)) ns) zero (state a) ≡ state b = ap (λ f. resized f zero (state a)) coded ∙ sym now in
      let view : whole ns ≡ u = ap whole (sym same) ∙ sym whole_is in
      accepted (setting_of w a) (Command.resize ns) (session_of a v) lies refl (ap not new) refl refl (session_of b u) None refl
      (λ i. (record { shape = sizes i; state = there i; window = view i; split = None }, None))
      (subst (λ ks. LiesIn ks u) (sym (ap (λ (h : Header). h.shape) head)) inside)
