-- Lemmas on the bits of headers.
--     Parts       a header field by field, and how long it is
--     Bits        the number in the bits from a place on
--     Pieces      bits that end to end make up a list
--     Sizes       the fields of the sizes
--     Faults      the first of several faults
--     Good        what bytes without a fault are
--     Modes       the mode that fields say
--     Found       what is read is spelled so
--     Spelled     what is spelled so is read
--     First       the first 19 bytes decide
--     Streams     the length of a stream with a fixed rate
pub mod Parts
pub mod Bits
pub mod Pieces
pub mod Sizes
pub mod Faults
pub mod Good
pub mod Modes
pub mod Found
pub mod Spelled
pub mod First
pub mod Streams
