pub mod Changes
pub mod Operators
