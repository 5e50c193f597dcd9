pub mod RingLemmas
pub mod TagLemmas
