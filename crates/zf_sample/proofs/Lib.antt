-- Lemmas on samples.
--     Counting  changes so far and those to come
--     Making    values made so far and those to come
pub mod Counting
pub mod Making
