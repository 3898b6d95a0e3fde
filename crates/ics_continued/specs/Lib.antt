pub mod Continued
pub mod Ends
pub mod Lasting
pub mod Inner
