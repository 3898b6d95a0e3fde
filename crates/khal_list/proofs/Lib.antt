pub mod AddedLemmas
pub mod KeptLemmas
pub mod PageLemmas
pub mod Printed
pub mod PutLemmas
pub mod RequestLemmas
pub mod RunLemmas
pub mod TokenPages
