pub mod Fields
pub mod Searches
pub mod Required
