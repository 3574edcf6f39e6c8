pub mod Table
pub mod Moves
pub mod Settings
pub mod PrivateForms
