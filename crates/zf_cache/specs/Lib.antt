-- What a cache is seen as, and what it stands for with the backing under it. One file for each subject:
--     Kept         the lines, their tags and the counts
--     Rules        in which line a block is, or goes
--     Standing     the state that cache and backing stand for, and when they fit
--     Bodies       what holds of the fields of a cache
--     Steps        the parts of a touch
--     Backed       a cache and the backing under it, seen as one
--     Loans        what a cache ends as, once a loan of a block has ended
pub mod Kept
pub mod Rules
pub mod Standing
pub mod Bodies
pub mod Backed
pub mod Loans
pub mod Steps
