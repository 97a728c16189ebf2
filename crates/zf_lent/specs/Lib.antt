-- What the contracts of zf_lent cite.
--     Over    bytes that are written over the start of others
--     Lent    how a call between bytes that are lent ends
pub mod Over
pub mod Lent
