-- Planes in which the first three ranks alone have ones, by the code of planes of four digits.
use Rattle.std.proofs.Common.{rules, ◌≡◌, ℕ, zero, suc, ◌+◌, ◌-◌, ◌*◌, ◌/◌, ◌%◌, ◌<◌, ◌≤◌, max, Bool, true, false, cond, List, [], ◌∷◌, ◌++◌, length, map, take, drop, get_or, replicate, refl, sym, ap, ◌∙◌, arith, append_assoc}
use Rattle.std.proofs.Math.Nat.{div-eq_of_lt}
use Rattle.zf_spec.{specs.Numbers.{field}, specs.HeldPlanes.{digits_held, planes_held}}
use Rattle.zf_spec.specs.Planes.{has_one, code_from_run, tail, plane_code, code_from, reach}
use Rattle.zf_spec.{proofs.Fields.{field-add, field-zero, length-field}, proofs.PlaneCode.{tail-zeros}}
use Rattle.zf_spec.proofs.Full.{tail-some}
use Rattle.zf_planes.{specs.Fours.{IsCodeOfTwo}, proofs.Doubled.{has_one-zeros_behind, run_zeros_behind}}
use Rattle.zf_planes.proofs.Placing.{reach_behind, reach_below}
use Rattle.zf_planes.proofs.Unpacking.{code_next}

-- ---- how many zeros are behind makes no difference

tail_none : (ds : List Bool) (k : ℕ) → has_one ds ≡ false → tail (ds ++ replicate (suc k) false) ≡ false ∷ []
tail_none [] k none = tail-zeros k
tail_none (d ∷ ds) k none = ap (λ t. cond t (true ∷ code_from_run ((d ∷ ds) ++ replicate (suc k) false)) (false ∷ [])) (has_one-zeros_behind (d ∷ ds) (suc k) ∙ none)

narrow_tail : (ds : List Bool) (k : ℕ) → tail (ds ++ replicate (suc k) false) ≡ tail (ds ++ false ∷ [])
narrow_tail ds k = by (has_one ds) refl
  where
    by : (t : Bool) → has_one ds ≡ t → tail (ds ++ replicate (suc k) false) ≡ tail (ds ++ false ∷ [])
    by true one =
        cc (
          tail-some (ds ++ replicate (suc k) false) (has_one-zeros_behind ds (suc k) ∙ one),
          run_zeros_behind ds k one,
          tail-some (ds ++ false ∷ []) (has_one-zeros_behind ds 1 ∙ one),
        )
    by false none = tail_none ds k none ∙ sym (tail_none ds 0 none)

narrow_plane : (n : ℕ) (ds : List Bool) (k : ℕ) → n ≤ length ds → plane_code n (ds ++ replicate (suc k) false) ≡ plane_code n (ds ++ false ∷ [])
narrow_plane zero ds k within = narrow_tail ds k
narrow_plane (suc n) [] k within = absurd (omega arith)
narrow_plane (suc n) (d ∷ ds) k within = ap (λ (bs : List Bool). d ∷ bs) (narrow_plane n ds k (omega arith))

-- ---- digits of three ranks

narrow_field : (size v : ℕ) → 3 < size → v < 8 → field size v ≡ field 3 v ++ replicate (suc (size - 4)) false
narrow_field size v some low = search (rules, div-eq_of_lt, field-add, field-zero)

pub narrow_code : (n size v : ℕ) → n ≤ 3 → 3 < size → v < 8 → plane_code n (field size v) ≡ plane_code n (field 4 v)
narrow_code n size v three some low = search (rules, narrow_field, narrow_plane, length-field)

pub narrow_reach : (size v : ℕ) → 3 < size → v < 8 → reach (field size v) ≡ reach (field 4 v)
narrow_reach size v some low =
    cc (
      narrow_field size v some low,
      reach_behind (field 3 v) (suc (size - 4)),
      narrow_field 4 v (omega arith) low,
      reach_behind (field 3 v) 1,
    )

-- ---- two planes of a word each

-- the next plane
narrow_next : {A : Type 0} (words : A → List ℕ) (n prec size i v : ℕ) (planes : List A) (plane : A) → n ≤ 3 → 3 < size → v < 8 → plane ≡ get_or planes (length planes - 1 - i) plane → i < prec → prec ≤ length planes
    → field size v ≡ digits_held size (words plane)
    → code_from n (drop i (take prec (planes_held size (map words planes)))) ≡ plane_code n (field 4 v) ++ code_from (max n (reach (field 4 v))) (drop (i + 1) (take prec (planes_held size (map words planes))))
narrow_next words n prec size i v planes plane three some low is below within same =
    cc (
      code_next words n prec size i planes plane is below within,
      narrow_code n size v three some low,
      narrow_reach size v some low,
    )

-- the next two, whose code is known
pub narrow_two : {A : Type 0} (words : A → List ℕ) (n prec size i v w l bits a : ℕ) (planes : List A) (first second : A) → n < 3 → 3 < size → v < 8 → w < 8 → i + 1 < prec → prec ≤ length planes
    → first ≡ get_or planes (length planes - 1 - i) first → second ≡ get_or planes (length planes - 1 - (i + 1)) second
    → field size v ≡ digits_held size (words first) → field size w ≡ digits_held size (words second)
    → IsCodeOfTwo n (v + 16 * w) l bits a
    → code_from n (drop i (take prec (planes_held size (map words planes)))) ≡ field l bits ++ code_from a (drop (i + 2) (take prec (planes_held size (map words planes))))
narrow_two words n prec size i v w l bits a planes first second three some low low' below within is is' same same' two =
    let top = take prec (planes_held size (map words planes)) in
    let m = max n (reach (field 4 v)) in
    let v_is : (v + 16 * w) % 16 ≡ v = omega arith in
    let w_is : (v + 16 * w) / 16 % 16 ≡ w = omega arith in
    let next : i + 1 + 1 ≡ i + 2 = omega arith in
    let reached : m ≤ 3 = omega (arith, reach_below 3 4 v (omega arith) (div-eq_of_lt low)) in
    cc (
      narrow_next words n prec size i v planes first (omega arith) some low is (omega arith) within same,
      narrow_next words m prec size (i + 1) w planes second reached some low' is' below within same',
      append_assoc (plane_code n (field 4 v)) (plane_code m (field 4 w))
          (code_from (max m (reach (field 4 w))) (drop (i + 1 + 1) top)),
    )
