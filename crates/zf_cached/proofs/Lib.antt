-- Lemmas about the definitions, for the laws of this crate and for the crates above. From the ground up:
--     States       two states with equal parts are equal
--     Caching      what touches and write-backs keep, and what becomes of each block
--     Flushing     what becomes of each block when an array is changed as a whole
--     Powers       the least power of two that passes a test, and numbers of lines
--     CodeOfZeros  bits that are all 0 read as a block of zeros
--     Arrays       what the codes of an array mean, and its file
--     Windows      the positions of windows
--     Numerals     numbers and values as digits
--     Cutting      texts that are cut at a byte, and numbers between such bytes
--     ReadLines    the words of a command, and the only command that a line is read as
--     Passes       passes over all blocks
--     Sessions     what the step of a command keeps
--     Runs         what the lines of a script keep, and lines one after the other
--     Uncached     a script over as many lines as blocks answers as over a plain array
--     Computing    what a run of a script computes with
pub mod States
pub mod Caching
pub mod Flushing
pub mod Placed
pub mod Acting
pub mod Parts
pub mod Powers
pub mod CodeOfZeros
pub mod Arrays
pub mod Windows
pub mod Numerals
pub mod Cutting
pub mod ReadLines
pub mod Sessions
pub mod Joining
pub mod Reading
pub mod Passes
pub mod Runs
pub mod Uncached
pub mod Computing
