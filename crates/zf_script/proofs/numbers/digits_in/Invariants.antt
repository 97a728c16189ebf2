use Rattle.std.{proofs.Common.{◌≡◌, ◌<◌, ◌^◌, take}, specs.Str.Parse.{AllDigits, digits_value}}
use Rattle.zf_script.proofs.numbers.digits_in.Given as goal

-- the bytes so far are digits that say the number so far
abbrev pub invariant-loop-byte : goal.invariant-loop-byte
invariant-loop-byte l = record {
  digits : AllDigits 10 (take l.byte-index l.word);
  number : l.number ≡ digits_value 10 (take l.byte-index l.word);
  short : l.number < 2 ^ 64;
}
