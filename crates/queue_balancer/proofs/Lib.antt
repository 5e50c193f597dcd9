pub mod BalanceLemmas
pub mod CountLemmas
pub mod PlacesLemmas
