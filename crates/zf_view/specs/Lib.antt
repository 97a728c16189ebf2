-- What the contracts of zf_view cite.
--     BlockItems    the blocks of a shape, in order
--     Touches       what a call on an array does at a position
--     Keeps         what a call of a view needs of its window, and what it keeps of the array behind it
--     ViewLoans     what a view is once a loan of its array has ended
--     Sums          sums of the values of a window, by one touch a value
--     Runs          a run of values along x that a view lends
--     Elems         what an iterator over the values of a view keeps, and what its steps do
pub mod BlockItems
pub mod Touches
pub mod Keeps
pub mod ViewLoans
pub mod Sums
pub mod Runs
pub mod Elems
