pub mod Idle
pub mod Leaves
pub mod LeavesOf
pub mod Rows
pub mod Standing
pub mod Table
