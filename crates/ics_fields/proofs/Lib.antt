pub mod DayLemmas
pub mod LocalLemmas
pub mod SetLemmas
pub mod PlaceLemmas
