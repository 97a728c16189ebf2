-- Lemmas on calls between lent bytes.
--     Over      how what is written over the start adds up
--     Lengths   the values of a good stream have fewer bytes than a word counts
pub mod Over
pub mod Lengths
