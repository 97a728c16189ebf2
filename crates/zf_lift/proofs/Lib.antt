-- Lemmas on the transform of a line.
--     FirstAlone  a line of which all coefficients but the first are zero
--     Biased      words that carry a bias, and their halves
pub mod FirstAlone
pub mod Biased
