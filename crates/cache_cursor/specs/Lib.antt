pub mod Cursor
pub mod Seek
