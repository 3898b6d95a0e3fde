pub mod DateLemmas
pub mod ShapeLemmas
pub mod RuleLemmas
pub mod ListedLemmas
pub mod RuleSays
pub mod StampLemmas
pub mod TextLemmas
pub mod TextNameLemmas
