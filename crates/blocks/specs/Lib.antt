pub mod Blocks
pub mod Decode
pub mod Lay
pub mod Finding
