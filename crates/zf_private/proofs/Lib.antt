pub mod Alike
pub mod Alone
pub mod Calls
pub mod Others
pub mod Several
pub mod Ready
pub mod Scripts
