pub mod AskedLemmas
pub mod LearnedLemmas
pub mod OutcomeLemmas
pub mod ReadLemmas
pub mod RefusedLemmas
pub mod ShownLemmas
pub mod ZoneLawLemmas
