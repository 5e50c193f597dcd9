pub mod Directories
pub mod Partitions
