pub mod CountLemmas
pub mod MarkLemmas
