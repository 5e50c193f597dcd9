pub mod Begun
pub mod GoneOn
pub mod Looking
pub mod Splitting
pub mod Tracing
pub mod Prelude
