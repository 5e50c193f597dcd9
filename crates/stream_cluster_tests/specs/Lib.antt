pub mod Parked
