mod FrontLemmas
pub mod NumberLemmas
mod RisingLemmas
