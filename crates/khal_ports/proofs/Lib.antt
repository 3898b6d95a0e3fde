pub mod HandedOn
pub mod Written
