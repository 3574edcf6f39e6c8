pub mod Finding
pub mod Laws
pub mod Passes
