-- What the contracts of zf_const cite.
--     Standing     what a read-only array is seen as, and the one state that it stands for
--     Files        the array of a stream
--     Loans        what an array is once a loan of a block has ended
--     Parts        what holds of the parts of an array
pub mod Standing
pub mod Files
pub mod Parts
pub mod Loans
