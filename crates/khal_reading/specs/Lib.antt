pub mod Asked
pub mod Errors
pub mod Gives
pub mod Shown
pub mod Status
pub mod Inner
