-- Lemmas about coefficients, for the contracts of this crate and for the crates above.
--     Mask         a word whose odd digits are flipped by a mask, and the number that its digits stand for
--     ShiftedBits  bits of words that are shifted, cut and put together
--     Prefixes       lists that are written from the front, place by place
--     Steps        words whose bits are swapped between pairs of them
--     Lanes        words that are swapped in lanes of two
--     Turns        steps that together turn the tiles of words
--     Putting      words of planes that are written plane by plane
--     Halves       tiles of digits that become planes, and planes that become halves of digits
--     Folded       sixteen digits that become planes, and planes that become sixteen digits, by way of folded rows
--     Filling      a list that is filled from the front
--     ByRank       the digits of a block by rank, and blocks that are filled by rank
--     Transposed   planes that are made of coefficients, and coefficients that are made of planes
--     AnyDigits    the digits that any coefficient has, and the planes that are needed
--     FirstAlone   planes in which no coefficient but the first has a one, and their coefficients
--     Composed     what the calls of this crate make of a block together
pub mod Mask
pub mod ShiftedBits
pub mod Prefixes
pub mod Steps
pub mod Lanes
pub mod Turns
pub mod Putting
pub mod Halves
pub mod Folded
pub mod Filling
pub mod ByRank
pub mod Transposed
pub mod AnyDigits
pub mod FirstAlone
pub mod Composed
