pub mod BlockLemmas
pub mod CurrentLemmas
pub mod FillLemmas
pub mod HandledLemmas
pub mod Prelude
