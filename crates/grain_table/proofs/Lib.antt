pub mod ChangeLemmas
pub mod TableLemmas
pub mod Prelude
