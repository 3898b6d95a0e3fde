pub mod Tests
pub mod DateLemmas
pub mod Counts
pub mod Months
pub mod PeriodLemmas
pub mod ProductCounts
pub mod ScanLemmas
pub mod RankLemmas
pub mod DayWalkLemmas
pub mod WeekLemmas
pub mod MonthDays
pub mod AbsentLemmas
mod RunLemmas
mod WeekDays
mod NearLemmas
mod PlaceLemmas
pub mod ClockLemmas
pub mod StepsLemmas
pub mod IntervalLemmas
pub mod CycleLemmas
pub mod StepWalks
pub mod CountBounds
pub mod Samples
