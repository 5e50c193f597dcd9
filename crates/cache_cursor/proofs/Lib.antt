pub mod SeekLemmas
pub mod Prelude
