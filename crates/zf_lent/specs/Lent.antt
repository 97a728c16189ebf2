-- How a call between bytes that are lent ends.
use Rattle.std.specs.Prelude.{ℕ, ◌≡◌, ◌⊎◌, List, ◌++◌, length, take, Result, Ok, Err, IfOk, IfErr, OnErr}
use Rattle.zf_lent.specs.Over.{over}

-- the input is a good one, and its text, of so many bytes, was written over the start of what is lent, as far as
-- there is room; all behind it stays
pub record WritesOver {E : Type 0} (stated : List ℕ → Result (Unit {0}) E) (text : List ℕ → List ℕ)
    (input before now : List ℕ) (len : ℕ) : Type 0 where
  pub good : stated input ≡ Ok tt
  pub written : now ≡ over (text input) before
  pub len_is : len ≡ length (text input)

-- a prefix of the text of a prefix of the input was written over the start, maybe nothing; all behind it stays
pub record LeavesPrefix (text : List ℕ → List ℕ) (input before now : List ℕ) : Type 0 where
  pub bytes : List ℕ
  pub left : List ℕ
  pub parts : input ≡ bytes ++ left
  pub count : ℕ
  pub written : now ≡ over (take count (text bytes)) before

-- how a call ends that writes the text of its input, and answers how long it is: on `Ok` it is written; an error is
-- the one that is stated for the input, or there was no memory; after an error that comes early nothing was written,
-- and after others a prefix
pub record Lent {E : Type 0} (stated : List ℕ → Result (Unit {0}) E) (text : List ℕ → List ℕ) (memory : E)
    (IsEarly : E → Type 0) (result : Result ℕ E) (input before now : List ℕ) : Type 0 where
  pub ok : IfOk result (WritesOver stated text input before now)
  pub fault : IfErr result (λ e. (stated input ≡ Err e) ⊎ (e ≡ memory))
  pub err : OnErr result (LeavesPrefix text input before now)
  pub unwritten : IfErr result (λ e. IsEarly e → now ≡ before)
