pub mod CheckedRows
pub mod FormatLemmas
pub mod LimitLemmas
pub mod WindowTextLemmas
