-- Lemmas on read-only arrays.
--     Meaning      what is read of a stream is what its codes mean
--     Standing     an array stands for the state of its cache and its codes
--     Values       the values of an array are those of its stream, and stay
--     Said         the values that a stream says are those that its codes mean
pub mod Meaning
pub mod Standing
pub mod Values
pub mod Said
