-- What the contracts of zf_bound cite.
--     Errors       how far values are from one another, and how an error grows
--     Bounds       what is certified of a stream
--     Spans        the spans of an index
pub mod Errors
pub mod Bounds
pub mod Spans
