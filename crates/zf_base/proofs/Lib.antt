pub mod Wrapping
pub mod Boxes
pub mod Sizes
pub mod Places
pub mod Extents
pub mod Values
pub mod Formats
pub mod Decimals
