-- Lemmas on the passes of the transform.
--     Rounds       rounds of wrapped differences and sums are the binomial sums of a line
--     WeightedAxes passes along all axes are one weighted sum
--     FirstAlone   sums of coefficients of which all but the first are zero
pub mod Rounds
pub mod WeightedAxes
pub mod FirstAlone
