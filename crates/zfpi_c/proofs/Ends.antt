-- How the calls end, from how those between slices end.
use Rattle.std.proofs.Common.{◌≡◌, refl, ap, sym, subst, ◌∙◌, inl, inr, ℕ, ◌≤◌, ◌<◌, List, [], ◌++◌, length, take, drop, append-nil, Result, Ok, Err, OnOk, IfErr, arith}
use Rattle.std.proofs.lemmas.List.{take_all, drop_all}
use Rattle.zf_lent.{specs.Over.{over}, specs.Lent.{WritesOver}, proofs.Over.{over_parts, over_whole}}
use Rattle.zfpi_c.specs.declared.status.Status.{Status}
use Rattle.zfpi_c.specs.declared.status.Status.TheVariants as statuses
use Rattle.zfpi_c.specs.{Statuses.{as_status}, Calls.{Writes, Refuses}}

-- as much as there is room for
over_part : (bytes old : List ℕ) → length old ≤ length bytes → over bytes old ≡ take (length old) bytes
over_part bytes old fits =
    over_parts bytes old (length old) (omega arith)
    ∙ (ap (λ rest. take (length old) bytes ++ rest) (drop_all (length old) old (omega arith)) ∙ append-nil (take (length old) bytes))

module _ {E : Type 0} (of : E → Status) (stated : List ℕ → Result (Unit {0}) E) (text : List ℕ → List ℕ) (input before now : List ℕ) where
  pub writes : (count : ℕ) → WritesOver stated text input before now count → count ≤ length before → Writes (as_status of (stated input)) (text input) before now count
  writes count is fits = record {
    good = ap (as_status of) is.good;
    len_is = is.len_is;
    written = is.written ∙ (over_whole (text input) before (omega (arith, is.len_is, fits)) ∙ ap (λ n. text input ++ drop n before) (sym is.len_is));
  }

  pub lacks_room : (len count : ℕ) → WritesOver stated text input before now count → length before < count → Refuses (as_status of (stated input)) text input before now len count statuses.Room
  lacks_room len count is more = record {
    cause = inr (inl (
      refl,
      record {
        good = ap (as_status of) is.good;
        len_is = is.len_is;
        more = more;
        written = is.written ∙ over_part (text input) before (omega (arith, is.len_is, more));
      },
    ));
    prefix = record {
      bytes = input;
      left = [];
      parts = sym (append-nil input);
      count = length (text input);
      written = is.written ∙ ap (λ t. over t before) (sym (take_all (length (text input)) (text input) (omega arith)));
    };
    unwritten = λ early. absurd early;
    len_stays = λ other. absurd (other refl);
  }

  -- how many bytes there are was told, and whether there was room for them
  pub told_ok : (r : Result (Unit {0}) Status) (count len : ℕ) → WritesOver stated text input before now count → len ≡ count → OnOk r (count ≤ length before) → OnOk r (Writes (as_status of (stated input)) (text input) before now len)
  told_ok (Ok done) count len is same fits = subst (Writes (as_status of (stated input)) (text input) before now) (sym same) (writes count is fits)
  told_ok (Err status) count len is same fits = tt

  pub told_err : (r : Result (Unit {0}) Status) (len_before count len : ℕ) → WritesOver stated text input before now count → len ≡ count → IfErr r (λ status. (status ≡ statuses.Room) × (length before < count))
      → IfErr r (Refuses (as_status of (stated input)) text input before now len_before len)
  told_err (Ok done) len_before count len is same more = tt
  told_err (Err status) len_before count len is same more =
      subst (Refuses (as_status of (stated input)) text input before now len_before len) (sym more.0)
      (subst (λ n. Refuses (as_status of (stated input)) text input before now len_before n statuses.Room) (sym same) (lacks_room len_before count is more.1))

-- refused before anything was looked at
pub untouched : (text : List ℕ → List ℕ) (input before : List ℕ) (len : ℕ) (status : Status) → Refuses (Err status) text input before before len len status
untouched text input before len status = record {
  cause = inr (inr refl);
  prefix = record { bytes = []; left = input; parts = refl; count = 0; written = refl };
  unwritten = λ early. refl;
  len_stays = λ room. refl;
}

pub untouched_by : (text : List ℕ → List ℕ) (input before : List ℕ) (len : ℕ) (status : Status) (r : Result (Unit {0}) Status) → r ≡ Err status → IfErr r (Refuses (Err status) text input before before len len)
untouched_by text input before len status r is = subst (λ (t : Result (Unit {0}) Status). IfErr t (Refuses (Err status) text input before before len len)) (sym is) (untouched text input before len status)
