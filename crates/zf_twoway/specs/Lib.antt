-- A cache in which each block may be in one of two lines. One file for each subject:
--     Placing      the two lines of a block; in which of them it is, or goes, as the state tells, and as the
--                  tags tell
--     Touch        a touch of a block
--     Standing     the state that cache and backing stand for, and when they fit
--     Runs         the run of a script
pub mod Placing
pub mod Touch
pub mod Standing
pub mod Runs
