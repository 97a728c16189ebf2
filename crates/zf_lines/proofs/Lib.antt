pub mod Blocks
pub mod Lent
pub mod Memory
pub mod Names
pub mod Runs
pub mod Sharing
pub mod Sizes
