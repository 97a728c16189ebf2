-- What the contracts of zf_commands cite.
--     Sittings    an array and a window as what a script works on
--     Kinds       which command each is that is sorted by its kind
--     Steps       what a line leads to, and what it answers
--     Calls       what a call finds and leaves of an array and a window
--     Lines       a line and the reply that is written
--     Runs        lines one after the other
--     Sums        sums of the values of a block
pub mod Sittings
pub mod Kinds
pub mod Steps
pub mod Calls
pub mod Lines
pub mod Runs
pub mod Sums
