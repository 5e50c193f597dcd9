pub mod Block
pub mod Cache
pub mod Ring
