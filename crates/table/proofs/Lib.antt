pub mod Tables
pub mod Walking
pub mod PrivateForms
pub mod Pens
