pub mod NearDayLemmas
pub mod NearPlaceLemmas
pub mod ShownLemmas
