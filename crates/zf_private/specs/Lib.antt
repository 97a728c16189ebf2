-- Private views: several caches over one list of codes, each over blocks of its own. What a view does is
-- defined in zf_cached (Acts, Views, Ownership). One file for each subject:
--     Standing     what a view of the program is seen as, and when it and a backing fit
--     Doing        when a call of a view may be made, and what it makes of view and backing
--     Several      several views of the program over one backing
--     Scripts      what the lines of a script answer, and which of them are on which view
pub mod Standing
pub mod Doing
pub mod Several
pub mod Scripts
