-- What the contracts of zf_index cite.
--     Spans     codes that stand one after another: where each begins, and how long it is
--     Files     the index of a stream, and why there is none
--     Opening   the header of a file that is opened as an array, and why a file is not opened
--     Walks     what a walk over the codes of a stream finds
pub mod Spans
pub mod Files
pub mod Opening
pub mod Walks
