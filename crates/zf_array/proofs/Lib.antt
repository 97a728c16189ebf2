-- Lemmas on arrays.
--     Standing     an array stands for the state of its cache and its store, and what their calls do to it
--     Steps        an array as it is made, and what is saved of it
--     Lent         what is written through a loan of a part of a block
--     Coded        what holds while no block is in any line
pub mod Standing
pub mod Steps
pub mod Lent
pub mod Coded
