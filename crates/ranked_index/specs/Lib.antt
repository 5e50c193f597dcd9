pub mod Keys
pub mod Leaves
pub mod Listed
pub mod Ranked
pub mod Ranking
pub mod Ranks
pub mod Tree
