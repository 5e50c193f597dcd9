pub mod Agent
pub mod Handled
pub mod Progress
