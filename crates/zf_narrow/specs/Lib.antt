-- What the contracts of zf_narrow cite.
--     Values      values of 8 and 16 bits, and the int32 values that stand for them
--     RawNarrow   their raw bytes, and the raw bytes of the int32 values
--     Texts       what whole streams are made of, and give
--     Promoting   a source of narrow bytes that gives raw int32 bytes
--     Promotions  how far values were promoted, before and after
--     Demotions   how far values were demoted, before and after
--     Facts       what a device keeps as a fact has one proof at most
pub mod Values
pub mod RawNarrow
pub mod Texts
pub mod Promoting
pub mod Promotions
pub mod Demotions
pub mod Facts
