pub mod Filled
pub mod Lends
pub mod LinesLend
pub mod Ownership
pub mod Places
pub mod Rows
pub mod Seen
