-- Lemmas on the library for C.
--     Says       a header as a field says it again
--     Narrowed   values of 8 and 16 bits
--     Ends       how the calls end, from how those between slices end
--     Written    parts that are read, from the bytes that stand in their place
pub mod Says
pub mod Narrowed
pub mod Ends
pub mod Written
