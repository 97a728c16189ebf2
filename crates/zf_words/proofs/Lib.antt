pub mod Decimals
pub mod ShapeWords
pub mod Completed
pub mod CommandWords
