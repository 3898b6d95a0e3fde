-- Words of private contracts and of proofs: no public clause reaches them.
pub mod PartsPass
pub mod GoingBehind
pub mod TakenParts
pub mod PassedLines
pub mod Passing
pub mod BareLines
pub mod FrontParts
pub mod FrontedRound
pub mod KeptFields
