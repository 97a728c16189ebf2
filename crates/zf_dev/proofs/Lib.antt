pub mod Appending
pub mod Devices
pub mod Giving
mod Held
pub mod Noting
mod Pieces
mod Saving
pub mod Taking
