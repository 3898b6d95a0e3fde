pub mod Answers
pub mod ErrorNames
pub mod Finds
pub mod Growth
pub mod Reads
