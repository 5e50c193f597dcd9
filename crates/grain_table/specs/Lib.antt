pub mod Grains
pub mod Changes
pub mod Table
