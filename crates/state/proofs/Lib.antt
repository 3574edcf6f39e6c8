pub mod Laws
pub mod Keeping
pub mod Lines
pub mod Pens
pub mod Arrays
