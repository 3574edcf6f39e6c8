pub mod Text
pub mod Commands
pub mod Host
pub mod Light
