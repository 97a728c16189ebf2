-- What the contracts of zf_array_tests cite.
--     EvenValues   the simplest codes that lose something
pub mod EvenValues
