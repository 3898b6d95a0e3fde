-- Words of private contracts and of proofs: no public clause reaches them.
pub mod Kept
