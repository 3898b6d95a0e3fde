pub mod File
pub mod Kept
