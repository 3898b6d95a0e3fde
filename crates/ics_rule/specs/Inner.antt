-- Words of private contracts and of proofs: no public clause reaches them.
pub mod HoursKept
pub mod DaysKept
pub mod Searches
pub mod Rounds
pub mod OpenPeriods
pub mod Quiet
pub mod Filled
pub mod Given
