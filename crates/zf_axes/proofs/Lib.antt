-- Lemmas on passes along axes.
--     Writes      four values written to a list
--     Strides     where a line begins, and which places it has
--     LineByLine  a pass along one axis, line by line
--     AxisByAxis  passes along all axes, one after the other
--     FirstAlone  passes back over a block of which all values but the first are zero
pub mod Writes
pub mod Strides
pub mod LineByLine
pub mod AxisByAxis
pub mod FirstAlone
