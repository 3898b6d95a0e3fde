pub mod HourLemmas
mod DayLemmas
pub mod ChosenLemmas
pub mod CursorLemmas
pub mod NextLemmas
pub mod CountLemmas
pub mod WalkLemmas
pub mod QuietLemmas
pub mod UntilLemmas
pub mod EndLemmas
pub mod LawLemmas
mod SizeLemmas
mod PassLemmas
pub mod RoundLemmas
mod PassedLemmas
mod EachLemmas
mod NeverLemmas
mod MostLemmas
mod FilledLemmas
mod OpenLemmas
mod RestLemmas
mod TableSteps
mod TableExamples
mod NthLemmas
mod TableCounts
mod FirstLemmas
mod FlatLemmas
mod EvenLemmas
pub mod CalendarRounds
mod GivenLemmas
