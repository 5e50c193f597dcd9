pub mod Laws
pub mod Placed
pub mod Plain
pub mod Step
