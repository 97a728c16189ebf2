-- What the contracts of zf_window cite.
--     WindowFields  what holds of the fields of a window, and why numbers are no window
--     Positions     the positions of an array that the positions of a window are
--     Places        the blocks and places of the positions of a window
--     Bounds        numbers between two bounds
--     Lemmas        what the laws of impls cite
pub mod WindowFields
pub mod Positions
pub mod Places
pub mod Bounds
pub mod Lemmas
