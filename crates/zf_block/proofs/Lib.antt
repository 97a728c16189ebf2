-- Lemmas on the codes of a block.
--     Sizes       the sizes of blocks
--     Widths      the widths of the two types
--     Digits      digits of coefficients, and the planes that they have
--     Kept        planes that a budget keeps whole, and planes that are missing below
--     Zeros       zero bits that fill a code
--     ZeroPlanes  planes of zeros: their code, what is read as such, and the block that they stand for
--     FirstAlone  planes in which the first rank alone has ones: their code, what is read as such, and their digits
--     TurnedDigits  digits that stand two bits apart, put together and turned
--     AfterReserve   room that was asked for before
--     PartsPassed  the parts of a code that bits begin with: how many bits they have, and how far the ones reach
--     PlanesPassed planes whose codes are passed one behind another
--     Answered    what follows of an answer that may be nothing
--     Decoded     what comes of reading a code
--     ReadCodes   what reading a code is, from what was read of it
--     UpperPlanes  planes of which the upper ones alone are reached
--     WholePlanes  how far down a code at a fixed rate has its planes whole
--     ReadBack    what is read back from the codes of a block
pub mod Sizes
pub mod Widths
pub mod Digits
pub mod Kept
pub mod Zeros
pub mod ZeroPlanes
pub mod FirstAlone
pub mod TurnedDigits
pub mod AfterReserve
pub mod PartsPassed
pub mod PlanesPassed
pub mod Answered
pub mod Decoded
pub mod ReadCodes
pub mod UpperPlanes
pub mod WholePlanes
pub mod ReadBack
