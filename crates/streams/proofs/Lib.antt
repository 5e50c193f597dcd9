mod Rounds
pub mod Prelude
