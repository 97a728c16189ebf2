-- Lemmas for every crate that writes or reads bits.
--     Fields       one bit as a digit; what is short, cut or one longer of the bits of a number
--     Words        the bits of words at a place, in one word and over the end of one
--     Appending    one append after another, and the fill
--     Reading      one read after another
--     Written      words that hold bits and then zeros
--     Packed       the bits of bytes are the bits of their words
--     Excerpts     a few of the bits of a file
pub mod Fields
pub mod Words
pub mod Appending
pub mod Reading
pub mod Packed
pub mod Written
pub mod Excerpts
