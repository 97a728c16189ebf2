-- What a stream says.
--     Raw          the raw values of an array, and their stream
--     Parsing      what a stream says: its header and its values, or why it says nothing
--     ReadStreams  what is read of a stream: its header, and the codes of its blocks
--     Cuts         where a stream ends too early
pub mod Raw
pub mod Parsing
pub mod ReadStreams
pub mod Cuts
