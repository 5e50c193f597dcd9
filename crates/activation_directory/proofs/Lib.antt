mod Cases
mod Counting
mod Histories
mod Holding
pub mod OnePermit
mod Others
mod PlacedLemmas
mod Unique
mod Walk
pub mod Prelude
