-- Lemmas on windows.
--     Axes         numbers along four axes, and along the used ones
--     Parts        windows made of their parts
--     Places       the positions that a window maps to, and its slices
--     Positions    the position of the array that a position of a window is
--     Raster       the positions of a window in raster order
--     Walks        the same by steps
--     Beside       positions that stand side by side in one block
--     Bounds       numbers between two bounds, and the widths that they fit
pub mod Axes
pub mod Parts
pub mod Places
pub mod Positions
pub mod Raster
pub mod Walks
pub mod Beside
pub mod Bounds
