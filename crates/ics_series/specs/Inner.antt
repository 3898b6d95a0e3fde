-- Words of private contracts and of proofs: no public clause reaches them.
pub mod Beginnings
pub mod ClockSets
pub mod Ended
pub mod Kept
pub mod Marks
pub mod Masters
pub mod SpanLaws
pub mod Spans
pub mod Whole
