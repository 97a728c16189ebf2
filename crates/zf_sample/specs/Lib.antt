-- What the contracts of zf_sample cite.
--     Made       the values that are made of a number
--     Summaries  what is said of them, of their stream and of what comes back
pub mod Made
pub mod Summaries
