pub mod Asking
pub mod Calls
pub mod Closing
pub mod Draining
pub mod Ends
pub mod Finishing
pub mod Gathering
