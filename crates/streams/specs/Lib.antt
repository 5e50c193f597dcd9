pub mod Answers
pub mod Services
pub mod Settling
