-- Words of private contracts and of proofs: no public clause reaches them.
pub mod NamedWeekdays
pub mod StepClocks
pub mod StepClasses
pub mod StepRounds
