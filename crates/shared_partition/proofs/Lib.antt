pub mod Directories
pub mod Legal
pub mod Partitions
pub mod Prelude
