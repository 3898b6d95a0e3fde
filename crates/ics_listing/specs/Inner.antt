-- Words of private contracts and of proofs: no public clause reaches them.
pub mod EntryLaws
pub mod MergedLaws
pub mod MergesLaws
pub mod Tournament
