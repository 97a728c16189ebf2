-- Lemmas on views, and on the blocks of a shape.
--     Runs         a run of positions along x
--     Sums         sums of the values of a window, touch by touch
--     BlockItems   the list of the blocks that an iterator has left
pub mod Runs
pub mod Sums
pub mod BlockItems
