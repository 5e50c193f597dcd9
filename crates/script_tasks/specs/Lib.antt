pub mod Checking
pub mod Printing
pub mod Statuses
pub mod Tasks
