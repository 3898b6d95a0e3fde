-- Words of private contracts and of proofs: no public clause reaches them.
pub mod WindowEnds
pub mod Kept
