-- What the contracts of zf_array cite.
--     Standing     the one state that an array stands for
--     Parts        what holds of the parts of an array
--     Loans        what an array is once a loan of a part of a block has ended
--     Coded        an array as a list of codes, while no block is in any line
pub mod Standing
pub mod Parts
pub mod Loans
pub mod Coded
