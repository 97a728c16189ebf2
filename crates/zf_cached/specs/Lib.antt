-- The definitions of cached arrays and scripts, that every crate above the codec cites. One file for each
-- subject:
--     State        the state of a cached array, and the line of a block
--     Touch        a touch of a block, a touch for writing, and write-back
--     Placing      in which line a block is, or goes: all in which caches differ
--     Changes      flush, discard, a new number of lines, resize, and an array as it is opened
--     Arrays       the codes of an array of whole numbers, and its file
--     Windows      windows of an array and their positions
--     Acts         what is done with a private view
--     Views        several views over one list of codes, their steps, and a view that is run alone
--     Ownership    which blocks a view owns
--     Splits       an array that is split into private views
--     Commands     what a line of a script asks for
--     Kinds        the kinds of commands
--     Grammar      which lines are which command
--     Replies      what a line answers, and the text of it
--     Steps        what a command does and answers, and when it is refused
--     Consistency  what holds of every state that is reached
--     Fates        what becomes of a block
--     Passes       passes over all blocks
--     Unwritten    how much a flush writes, and lines that write nothing
--     Runs         the run of a script, and the look at an array that is only read
--     Uncached     a script over a plain array of values, and when a cache has lines enough
pub mod State
pub mod Touch
pub mod Placing
pub mod Changes
pub mod Arrays
pub mod Windows
pub mod Acts
pub mod Views
pub mod Ownership
pub mod Splits
pub mod Commands
pub mod Kinds
pub mod Grammar
pub mod Replies
pub mod Steps
pub mod Consistency
pub mod Fates
pub mod Passes
pub mod Runs
pub mod Unwritten
pub mod Uncached
