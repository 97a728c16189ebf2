-- What the contracts of zf_store cite.
--     Stored       what a store is seen as: the header of its file, and the code of each block
--     Files        what a file says
--     Words        what holds of the fields of a store
pub mod Stored
pub mod Files
pub mod Words
