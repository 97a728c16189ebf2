pub mod Standing
pub mod Touches
