-- Words of private contracts and of proofs: no public clause reaches them.
pub mod Reading
pub mod Runs
pub mod Pieces
