-- What the contracts of zfpi_uses cite.
--     Marked   the sum of a window, what is saved after its first run was written over, and why nothing was done
--     Changed  what becomes of the state of an array
pub mod Marked
pub mod Changed
