mod Running
mod Tracing
pub mod Prelude
