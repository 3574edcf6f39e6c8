pub mod Steps
pub mod Seen
pub mod Told
pub mod Light
pub mod Claims
