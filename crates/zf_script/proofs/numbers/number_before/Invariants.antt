use Rattle.std.{proofs.Common.{◌≡◌, ◌<◌, ◌^◌, take}, specs.Str.Parse.{AllDigits, digits_value}}
use Rattle.zf_script.proofs.numbers.number_before.Given as goal

-- the bytes so far are digits that say the number so far; a zero stands alone
abbrev pub invariant-loop-at : goal.invariant-loop-at
invariant-loop-at l = record {
  digits : AllDigits 10 (take l.at l.word);
  number : l.number ≡ digits_value 10 (take l.at l.word);
  short : l.number < 2 ^ 64;
  alone : l.first ≡ 48 → l.at ≡ 1;
}
