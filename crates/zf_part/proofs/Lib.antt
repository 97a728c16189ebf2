-- Lemmas on blocks of streams.
--     Spans       a block that is read where its code stands
--     Written     what a stream says once a code is put anew
--     Cutting     one value more of a window
--     Bits        bits of bytes and of words
pub mod Spans
pub mod Written
pub mod Cutting
pub mod Bits
