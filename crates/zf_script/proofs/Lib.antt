-- Lemmas on the words of lines.
--     Digits     digits one by one, and numbers as words
--     Values     values as words
--     Joined     numbers with a byte between two of them, part by part
--     Leading    the number before a byte
--     Lines      words of lines and the commands that they are
pub mod Digits
pub mod Values
pub mod Joined
pub mod Leading
pub mod Lines
