pub mod Commands
pub mod Entries
pub mod Formats
pub mod Limits
pub mod SpanTexts
pub mod WindowTextNames
pub mod WindowTexts
