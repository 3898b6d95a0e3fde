pub mod InstanceLemmas
pub mod RisingLemmas
pub mod ContinuedLemmas
