pub mod Frames
pub mod Printing
pub mod Sessions
pub mod Transcript
pub mod Held
