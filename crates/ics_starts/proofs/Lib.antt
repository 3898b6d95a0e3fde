pub mod ExclusionLemmas
pub mod StartSourceLemmas
pub mod StretchLemmas
pub mod InstantLemmas
pub mod CountLemmas
pub mod MeetsLemmas
pub mod JoinedLemmas
pub mod QueueLemmas
pub mod QuietLemmas
pub mod RawLemmas
pub mod RuleDayLemmas
pub mod RuleStepLemmas
pub mod SeriesLemmas
pub mod SettledLemmas
pub mod SoughtLemmas
pub mod UntilLemmas
pub mod EntryLemmas
mod FindLemmas
mod KeptLemmas
mod NearLemmas
pub mod ZoneLemmas
pub mod PassedLemmas
pub mod RemovedLemmas
pub mod TakenLemmas
pub mod EndedLemmas
pub mod OverLemmas
pub mod SameLemmas
pub mod BeginLemmas
pub mod BegunLemmas
mod ByLocalLemmas
