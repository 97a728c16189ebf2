-- What reading gives is of the type.
use Rattle.std.proofs.Common.{◌≡◌, ℕ, zero, suc, ◌*◌, ◌/◌, ◌%◌, ◌^◌, ◌-◌, ◌+◌, ◌<◌, Bool, cond, ℤ, pos, FitsSigned, Some, List, [], map, length, get_or, All, arith, rules}
use Rattle.std.{proofs.lemmas.Bool.{cases_lt, cond_both}, proofs.lemmas.List.{get_or_past}, specs.Int.{Width}}
use Rattle.std.proofs.lemmas.List.Elements.{All-nil, All-get_or, All-map}
use mir.Val.{bits}
use Rattle.zf_spec.{specs.Grid.{upto, product, coordinates, indices, is_inside}, specs.Lorenzo.{unlorenzo}}
use Rattle.zf_spec.specs.Lift.{unlift_line, line_value, along, along_axes_back, unlift}
use Rattle.zf_spec.{specs.Kept.{kept_planes}, specs.ReadPlanes.{planes_in}, proofs.Negabinary.{value_of_fits}}
use Rattle.zf_spec.specs.Codes.{coefficients_of, existing_values, read_rev, read_rate, read_prec}
use Rattle.zf_spec.{proofs.Wrapping.{wrap_fits, zero_fits}, proofs.Padding.{get_or_all}}
use Rattle.zf_base.specs.Places.{block_number, place_of}
use Rattle.zf_header.specs.declared.header.Mode.{Mode}
use Rattle.zf_header.specs.declared.header.Mode.TheVariants.{Reversible, Rate, Precision}
use Rattle.zf_parse.{specs.Parsing.{read_code, values_of_blocks}, proofs.Prefixes.{found_some}}

module _ (w : Width) where
  -- values of the type
  abbrev Fit : List ℤ → Type 0
  Fit values = All (λ v. FitsSigned w v) values

  -- values at other places, and 0 where there is none
  placed_fit : (at : ℕ → ℕ) (n : ℕ) (values : List ℤ) → Fit values → Fit (map (λ p. get_or values (at p) (pos 0)) (upto n))
  placed_fit at n values fit =
      All-map (λ v. FitsSigned w v) (λ p. get_or values (at p) (pos 0)) (upto n)
      (λ k e inside. get_or_all (λ v. FitsSigned w v) values (at (get_or (upto n) k e)) (zero_fits w) fit)

  existing_fit : (es : List ℕ) (block : List ℤ) → Fit block → Fit (existing_values es block)
  unfolding existing_values
  existing_fit es block fit =
      let n = 4 ^ length es in
      All-map (λ v. FitsSigned w v) (λ p. cond (is_inside es (indices (length es) p)) (get_or block p (pos 0)) (pos 0)) (upto n)
      (λ k e inside. let p = get_or (upto n) k e in cond_both (is_inside es (indices (length es) p)) (get_or block p (pos 0)) (pos 0) (λ v. FitsSigned w v)
      (λ yes. get_or_all (λ v. FitsSigned w v) block p (zero_fits w) fit) (λ no. zero_fits w))

  coefficients_fit : (d : ℕ) (planes : List (List Bool)) → Fit (coefficients_of w d planes)
  coefficients_fit d planes = search (rules, placed_fit, All-map, value_of_fits)

  unlorenzo_fits : (d : ℕ) (block : List ℤ) → Fit (unlorenzo w d block)
  unfolding unlorenzo
  unlorenzo_fits d block = search (rules, All-map, wrap_fits)

  -- a line of the inverse lift
  line_fits : (a b c d : ℤ) (i : ℕ) → i < 4 → FitsSigned w (get_or (unlift_line w a b c d) i (pos 0))
  line_fits a b c d (suc (suc (suc (suc i)))) lt = absurd (omega arith)
  line_fits a b c d x lt = wrap_fits w _

  along_fits : (step : ℕ) (block : List ℤ) → Fit (along (unlift_line w) step block)
  unfolding along
  along_fits step block =
      All-map (λ v. FitsSigned w v) (line_value (unlift_line w) step block) (upto (length block))
      (λ k e inside.
      let p = get_or (upto (length block)) k e in
      let at : ℕ → ℤ = λ j. get_or block (p - step * (p / step % 4) + step * j) (pos 0) in
      line_fits (at 0) (at 1) (at 2) (at 3) (p / step % 4) (omega arith))

  axes_fit : (step d : ℕ) (block : List ℤ) → Fit block → Fit (along_axes_back (unlift_line w) step d block)
  axes_fit step zero block fit = fit
  axes_fit step (suc d) block fit = along_fits step (along_axes_back (unlift_line w) (4 * step) d block)

  -- ---- what reading a code gives

  lifted_fits : (es : List ℕ) (planes : List (List Bool)) → Fit (existing_values es (unlift w (length es) (coefficients_of w (length es) planes)))
  lifted_fits es planes = existing_fit es (unlift w (length es) (coefficients_of w (length es) planes)) (axes_fit 1 (length es) (coefficients_of w (length es) planes) (coefficients_fit (length es) planes))

  read_rate_fits : (es : List ℕ) (s : List Bool) → Fit (read_rate w es s)
  unfolding read_rate
  read_rate_fits es s = lifted_fits es (kept_planes (length s) (planes_in (bits w) (4 ^ length es) s))

  pub code_fits : (mode : Mode) (es : List ℕ) (s : List Bool) (block : List ℤ) (k : ℕ) → read_code w mode es s ≡ Some (block, k) → All (λ v. FitsSigned w v) block
  unfolding read_rev read_prec
  code_fits Reversible es s block k e = search (rules, found_some, existing_fit, unlorenzo_fits)
  code_fits (Precision p) es s block k e = search (rules, found_some, lifted_fits)
  code_fits (Rate b) es s block k e = search (rules, found_some, read_rate_fits)

  -- ---- the values of an array

  -- a block among those of the type, and an empty one where there is none
  block_fits : (bs : List (List ℤ)) (b : ℕ) → All Fit bs → Fit (get_or bs b [])
  block_fits bs b fit = search (rules, cases_lt, All-get_or, get_or_past, All-nil)

  pub joined_fit : (ns : List ℕ) (bs : List (List ℤ)) → All (λ vs. All (λ v. FitsSigned w v) vs) bs → All (λ v. FitsSigned w v) (values_of_blocks ns bs)
  joined_fit ns bs fit =
      let n = product ns in
      let value : ℕ → ℤ = λ k. get_or (get_or bs (block_number ns (coordinates ns k)) []) (place_of (coordinates ns k)) (pos 0) in
      All-map (λ v. FitsSigned w v) value (upto n)
      (λ k e inside.
      let ps = coordinates ns (get_or (upto n) k e) in
      get_or_all (λ v. FitsSigned w v) (get_or bs (block_number ns ps) []) (place_of ps) (zero_fits w) (block_fits bs (block_number ns ps) fit))
