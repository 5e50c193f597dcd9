mod CountLemmas
mod PlaceLemmas
mod QueueLemmas
mod ScriptLemmas
mod VerbLemmas
mod VerbPlaces
pub mod Prelude
