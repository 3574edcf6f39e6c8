pub mod Flags
pub mod Examples
