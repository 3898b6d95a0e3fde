pub mod NearDays
pub mod Offsets
pub mod ShownDays
pub mod Today
pub mod HasPlaces
pub mod NearPlaces
pub mod Spans
