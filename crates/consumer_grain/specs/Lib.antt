pub mod Activations
pub mod Begins
pub mod Handled
pub mod Subscriptions
