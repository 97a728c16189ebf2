-- What the contracts of zf_run cite.
--     Sessions    an array and a window as what a script works on
--     Splits      an array that is split into private views
--     Changes     a value of a view that is set, or added to
--     Pairs       a store and a two-way cache over it as what a script works on
--     Ends        how the run of a script ends
pub mod Sessions
pub mod Splits
pub mod Changes
pub mod Pairs
pub mod Ends
