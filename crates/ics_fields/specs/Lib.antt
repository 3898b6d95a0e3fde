pub mod Days
pub mod Fields
pub mod Clocks
pub mod Locals
pub mod Sets
pub mod Ordinals
pub mod RuleParts
pub mod Observances
