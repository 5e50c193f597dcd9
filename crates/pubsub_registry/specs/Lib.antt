pub mod Ascending
pub mod Implying
pub mod Index
pub mod Packed
pub mod Registry
pub mod Rows
pub mod Sound
