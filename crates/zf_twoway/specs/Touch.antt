-- What a touch of a block does where each block may be in one of two lines (this project's own).
use Rattle.std.specs.Prelude.{ℕ, ℤ, Bool, ◌||◌, is_none}
use Rattle.zf_base.specs.Formats.{Format}
use Rattle.zf_cached.specs.State.{State, is_block}
use Rattle.zf_cached.specs.Touch.{touch_at, touch_for_writing_at}
use Rattle.zf_cache.specs.Steps.{put_at}
use Rattle.zf_twoway.specs.Placing.{first_line, second_line, choice, is_clean_in, two_lines}

module _ {Code : Type 0} where
  -- no dirty block is in line l
  abbrev pub is_clean_line : State Code → ℕ → Bool
  is_clean_line s l = is_clean_in s.held s.dirty l

  -- block b is here: one of its two lines holds it
  abbrev pub is_here : State Code → ℕ → Bool
  is_here s b = is_block (s.held (first_line s.lines b)) b || is_block (s.held (second_line s.lines b)) b

  -- the line into which block b goes where it is not here
  abbrev pub goes_to : State Code → ℕ → ℕ
  goes_to s b =
      let first = first_line s.lines b in let second = second_line s.lines b in
      choice (is_none (s.held first)) (is_none (s.held second)) (is_clean_line s first)
      (is_clean_line s second) first second

  -- a touch of block b: where it is not here, it is put into one of its two lines
  abbrev pub touch : Format Code → State Code → ℕ → State Code
  touch format s b = touch_at two_lines format s b

  -- a touch for writing
  abbrev pub touch_for_writing : Format Code → State Code → ℕ → State Code
  touch_for_writing format s b = touch_for_writing_at two_lines format s b

  -- a touch for writing that puts the value v at place p
  abbrev pub put : Format Code → State Code → ℕ → ℕ → ℤ → State Code
  put format s b p v = put_at two_lines format s b p v
