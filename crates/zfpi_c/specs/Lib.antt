-- What the contracts of zfpi_c cite.
--     Statuses   the number of each status, and the one that a fault of a stream has
--     Fields     the header that a field says, or why it says none, and what is stated of raw bytes
--     Calls      how the calls end
--     Parts      how the calls on parts of a stream end
pub mod Calls
pub mod Parts
pub mod Fields
pub mod Statuses
