-- Words of private contracts and of proofs: no public clause reaches them.
pub mod SoundParts
pub mod PartialFiles
pub mod UnknownNames
pub mod PartsRead
pub mod SharedFaults
pub mod Labels
pub mod SummedUids
