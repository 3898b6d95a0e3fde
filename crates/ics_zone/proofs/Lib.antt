pub mod Cases
pub mod UntilLemmas
pub mod FileLemmas
pub mod JiffLemmas
pub mod OnsetLemmas
pub mod FoundLemmas
pub mod EndLemmas
pub mod MomentLemmas
pub mod LatestLemmas
pub mod KeptLemmas
mod NearLemmas
mod RepeatLemmas
mod OnsetGapLemmas
pub mod SixtyLemmas
pub mod MinuteLemmas
pub mod HourLemmas
pub mod MarkLemmas
pub mod ListingLemmas
pub mod ZoneSteps
pub mod JumpLemmas
pub mod WalkLemmas
pub mod GapLemmas
pub mod StretchLemmas
pub mod SweepLemmas
pub mod TableLemmas
pub mod EachSecondLemmas
pub mod CandidateLemmas
pub mod ReadLemmas
pub mod BoundsLemmas
pub mod FileStretchLemmas
pub mod LearnedLemmas
pub mod RuleTurnLemmas
pub mod RuleStretchLemmas
