pub mod Laws
pub mod Cases
pub mod Keeping
pub mod Lengths
pub mod Events
pub mod Examples
pub mod Range
