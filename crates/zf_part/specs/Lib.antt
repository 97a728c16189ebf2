-- What the contracts of zf_part cite.
--     Blocks    blocks of a stream: what their values are, and what a write leaves
--     Places    where the codes of a stream begin
--     Readings  what blocks of a stream are read by
--     Windows   what the values of a window of a stream are
pub mod Blocks
pub mod Places
pub mod Readings
pub mod Windows
