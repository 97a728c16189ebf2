-- Lemmas on commands.
--     Cutting    scripts cut at their first line feed
--     Lining     a line as it is read
--     Sorting    commands and their kinds
--     Folding    lines one after the other, with the replies that are written
--     Wide       values as numbers of 128 bits
--     Stepping   the steps of commands that are refused and of those that are not
--     Passing    passes over all blocks, and sums of the values of one
--     Commanding each kind of command
pub mod Cutting
pub mod Lining
pub mod Sorting
pub mod Folding
pub mod Wide
pub mod Stepping
pub mod Commanding
pub mod Passing
