pub mod Event
pub mod Kept
pub mod More
