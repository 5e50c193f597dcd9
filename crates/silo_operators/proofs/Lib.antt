pub mod Changing
pub mod Making
pub mod Rows
pub mod Spreading
pub mod Prelude
