pub mod AppendLemmas
pub mod EventLemmas
pub mod LogLemmas
pub mod Prelude
