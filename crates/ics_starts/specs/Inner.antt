-- Words of private contracts and of proofs: no public clause reaches them.
pub mod ByLocal
pub mod ClockStretches
pub mod Finds
pub mod KeptFinds
pub mod KeptLocals
